-- Demand 3, of what the two public calls answer. `Answers xs ns o ms` is the reader's contract, and `Writes (sequence_header.enc a) xs w ys` the writer's.
use mathlib.Core.Path.{◌≡◌, refl, sym, ap, ◌∙◌}
use mathlib.Core.List.{List, ◌++◌}
use Prim.Native.Nat.{ℕ, ◌≤◌}
use native.Mathlib.Omega.{arith}
use lib.ListN.{length, drop}
use Rattle.bits.specs.Bits.{Bits}
use Rattle.bits.specs.Walk.{Walk, refused, run}
use Rattle.bits.specs.Codec.{Got, got, stop, Nil, nil}
use Rattle.bits.specs.declared.answer.Refusal.{Refusal}
use Rattle.bits.specs.Written.{Answer, Written}
use Rattle.std.specs.Prelude.{Result, Ok, Err}
use Rattle.obu.specs.Writer.{written, Writes, writes}
use Rattle.obu.specs.Demand3.{AreBytes, read, Consistent, Spells, Shortest}
use Rattle.obu.proofs.Writing.{refusing}
use Rattle.sequence.specs.declared.record.SequenceHeaderObu.{SequenceHeaderObu}
use Rattle.sequence.specs.Sequence.{sequence_header}
use Rattle.sequence.proofs.Demand.{sequence_demand3}
use Rattle.sequence_reader.specs.Layouts.{numbers_of}
use Rattle.sequence_reader.specs.Reader as R
use Rattle.sequence_reader.specs.Reader.{answer_for, Answers}

-- one answer, and one content, for every input
pub only : (xs ns : List ℕ) {o p : Result Nil Refusal} {ms ls : List ℕ} → Answers xs ns o ms → Answers xs ns p ls → (o ≡ p) × (ms ≡ ls)
only xs ns a b = let e = a ∙ sym b in (ap (λ (x : R.Answered). x.outcome) e, ap (λ (x : R.Answered). x.numbers) e)

-- what was read, where the answer is that it was
pub record Accepted (xs ms : List ℕ) : Type 0 where
  pub it : SequenceHeaderObu
  pub rest : Bits
  pub reads : read sequence_header xs ≡ got it rest
  pub numbers : ms ≡ numbers_of it

pub accepted : (xs ns : List ℕ) {o : Result Nil Refusal} {ms : List ℕ} → Answers xs ns o ms → o ≡ Ok nil → Accepted xs ms
unfolding answer_for
accepted xs ns {o} {ms} a e = go (read sequence_header xs) refl
  where
    go : (g : Got SequenceHeaderObu) → read sequence_header xs ≡ g → Accepted xs ms
    go (got h rest) k = record { it = h; rest = rest; reads = k; numbers = ap (λ (x : R.Answered). x.numbers) (rw k at a) }
    go (stop r) k = absurd (let w : o ≡ Err r = ap (λ (x : R.Answered). x.outcome) (rw k at a) in let n : ◌≡◌ {A = ℕ} 0 1 = cc in omega arith)

-- Accepted exactly when some consistent record has the bytes as a spelling: what is accepted is spelled by the record whose numbers are left, which is
-- consistent; its fields that are neither coded nor checked are 0, and its inferred ones have the inferred value, as its walk checks.
pub accepted_is_spelled : (xs ns : List ℕ) → AreBytes xs → {o : Result Nil Refusal} {ms : List ℕ} → Answers xs ns o ms → o ≡ Ok nil
    → (h : SequenceHeaderObu) × (ms ≡ numbers_of h) × Consistent sequence_header h × Spells sequence_header h xs × (sequence_header.coded h ≡ h)
accepted_is_spelled xs ns X a e =
    let g = accepted xs ns a e in
    let d = sequence_demand3.accepted_is_spelled xs X g.it g.rest g.reads in
    (g.it, g.numbers, d.0, d.1, d.2)

-- .. and every spelling is accepted, with the record's coded fields.
pub spelled_is_accepted : (h : SequenceHeaderObu) (xs ns : List ℕ) → Spells sequence_header h xs → {o : Result Nil Refusal} {ms : List ℕ} → Answers xs ns o ms → R.answer o ms ≡ R.answer (Ok nil) (numbers_of (sequence_header.coded h))
unfolding answer_for
spelled_is_accepted h xs ns s a = a ∙ rw (sequence_demand3.spelled_is_accepted h xs s)

-- The bytes fix every coded field.
pub fields_are_fixed : (h k : SequenceHeaderObu) (xs : List ℕ) → Spells sequence_header h xs → Spells sequence_header k xs → sequence_header.coded h ≡ sequence_header.coded k
fields_are_fixed = sequence_demand3.fields_are_fixed

-- what the writer answers and leaves, where it is known what is written
as_written : {w : Walk} {xs : List ℕ} {o : Written} → written w xs ≡ o → {a : Answer} {ys : List ℕ} → Writes w xs a ys → (a ≡ o.answer) × (ys ≡ o.bytes)
as_written e (writes p q) = (p ∙ ap (λ (x : Written). x.answer) e, q ∙ ap (λ (x : Written). x.bytes) e)

-- The bytes es are the record's one shortest spelling. Written with room enough, the record gives es, and every byte beyond is kept. Read, es gives
-- the numbers of the record's coded fields.
pub record WrittenAs (h : SequenceHeaderObu) (es : List ℕ) : Type 0 where
  pub shortest : Shortest sequence_header h es
  pub given : (buffer : List ℕ) → AreBytes buffer → length es ≤ length buffer → length buffer ≤ 65536 → {w : Answer} {ys : List ℕ} → Writes (sequence_header.enc h) buffer w ys
      → (w ≡ Ok (length es)) × (ys ≡ es ++ drop (length es) buffer)
  pub read_back : (ns : List ℕ) {o : Result Nil Refusal} {ms : List ℕ} → Answers es ns o ms → R.answer o ms ≡ R.answer (Ok nil) (numbers_of (sequence_header.coded h))

-- Every consistent record is written so.
pub consistent_is_written : (h : SequenceHeaderObu) → Consistent sequence_header h → (es : List ℕ) × WrittenAs h es
consistent_is_written h c =
    let g = sequence_demand3.consistent_is_written h c in
    (g.0, record { shortest = g.1; given = λ buffer B l m p. as_written (g.2 buffer B l m) p; read_back = λ ns a. spelled_is_accepted h g.0 ns g.1.spells a })

-- Written again, so is every record that has a spelling, since it is consistent.
pub written-again : (h : SequenceHeaderObu) (xs : List ℕ) → Spells sequence_header h xs → (es : List ℕ) × WrittenAs h es
written-again h xs s = consistent_is_written h (sequence_demand3.spelled_is_consistent h xs s)

-- A record that is not consistent is refused by its walk's refusal, and no byte changes.
pub inconsistent_is_refused : (h : SequenceHeaderObu) (why : Refusal) → (run (sequence_header.enc h)).end ≡ refused why → (buffer : List ℕ) → length buffer ≤ 65536
    → {w : Answer} {ys : List ℕ} → Writes (sequence_header.enc h) buffer w ys → (w ≡ Err why) × (ys ≡ buffer)
inconsistent_is_refused h why e buffer l p = as_written (refusing (sequence_header.enc h) buffer why l e) p
