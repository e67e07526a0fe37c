-- Where the payload begins, and the part that is handed back.
use mathlib.Core.Path.{◌≡◌, refl, sym, ap, ◌∙◌}
use mathlib.Core.List.{List}
use mathlib.Core.Logic.{⊎_elim}
use Prim.Native.Nat.{ℕ, ◌+◌, ◌-◌, ◌/◌, ◌^◌, ◌<◌, ◌≤◌}
use native.Mathlib.Omega.{arith}
use lib.ListN.{length, take, drop, length-drop}
use lib.Seq.{length-take-le}
use denote.Ref.{Bor}
use Rattle.bits.specs.Bits.{end}
use Rattle.std.specs.Prelude.{Ok, Err}
use Rattle.bits.specs.Codec.{Got, got, stop, Nil}
use Rattle.bits.specs.Answers.{found}
use Rattle.bits.specs.declared.answer.Refusal.{Refusal}
use Rattle.bits.proofs.Places.{end_is, length_from}
use Rattle.bits.proofs.Storing.{below_or}
use Rattle.reader.specs.declared.BitReader.{BitReader}
use Rattle.reader.specs.Reading.{Said}
use Rattle.reader.proofs.Reading.{reads_at, kept}
use Rattle.obu.specs.declared.header.ObuHeader.{ObuHeader}
use Rattle.obu.specs.Header.{obu_header}
use Rattle.obu.specs.Framing.{read_size}
use Rattle.obu.specs.Demand3.{read}
use Rattle.obu.proofs.ObuReading.{read_long}
use Rattle.sequence.specs.Sequence.{sequence_header}
use Rattle.sequence_reader.specs.declared.read.Part.{Part}
use Rattle.sequence_reader.specs.Reader.{Holds}
use Rattle.sequence_reader.proofs.Answering.{was_held, not-held}
use Rattle.sequence_reader.specs.Payload.{behind, part_for, payload_part, part, Hands, hands}

none : (n : ℕ) → n ≡ n - 0 / 8
none n = omega arith

-- over the reader s of the whole input x
module _ {x : Bor (List ℕ)} {s : BitReader} (is : (s.bytes ≡ x) × (s.at ≡ 0)) {a : BitReader} where
  pub behind-none : {y : Refusal} → Said (obu_header 1).dec s a (Err y) → length x.now ≡ behind x.now
  unfolding behind found
  behind-none H = rw (← is.0, ← is.1, (reads_at s H refl).finds) (none (length s.bytes.now))

  module _ {h : ObuHeader} (H : Said (obu_header 1).dec s a (Ok h)) {b : BitReader} where
    pub behind_no : {y : Refusal} → Said (read_size h.has_size_field) a b (Err y) → length x.now ≡ behind x.now
    unfolding behind found
    behind_no Z = rw (← is.0, ← is.1, (reads_at s H refl).finds, (reads_at s Z (kept H)).finds) (none (length s.bytes.now))

    module _ {u : Nil} (Z : Said (read_size h.has_size_field) a b (Ok u)) {n : ℕ} (k : n ≡ end b.bytes.now - b.at) where
      pub bits-within : n / 8 ≤ length x.now
      bits-within = let e : b.bytes ≡ x = kept Z ∙ kept H ∙ is.0 in let w : n ≡ end x.now - b.at = rw e at k in omega (arith, end_is x.now)

      pub behind_is : length x.now - n / 8 ≡ behind x.now
      unfolding behind found
      behind_is = let e : b.bytes ≡ s.bytes = kept Z ∙ kept H in let w : n ≡ end s.bytes.now - b.at = rw e at k in rw (← is.0, ← is.1, (reads_at s H refl).finds, (reads_at s Z (kept H)).finds, length_from s.bytes.now b.at, w)

behind-within : (xs : List ℕ) → behind xs ≤ length xs
unfolding behind
behind-within xs = omega arith

pub behind-inside : (xs : List ℕ) {n : ℕ} → n ≡ behind xs → n ≤ length xs
behind-inside xs e = rw e (behind-within xs)

module _ (xs : List ℕ) {ns ms : List ℕ} where
  pub part_none : {y : Refusal} → Holds xs ns (Err y) ms → record { place = 0; size = 0 } ≡ payload_part xs
  unfolding payload_part
  part_none i = rw (not-held i)

  pub part_some : {u : Nil} {n : ℕ} → Holds xs ns (Ok u) ms → n ≡ behind xs → record { place = n; size = length xs - n } ≡ payload_part xs
  unfolding payload_part
  part_some i k = rw (k, (was_held i).reads)

-- the part lies in the input, which has at most 65,536 bytes where there is one
for_within : {A : Type 0} (g : Got A) (xs : List ℕ) → (part_for g xs).place + (part_for g xs).size ≤ length xs
for_within (got a rest) xs = omega (arith, behind-within xs)
for_within (stop r) xs = omega arith

within : (xs : List ℕ) → (payload_part xs).place + (payload_part xs).size ≤ length xs
unfolding payload_part
within xs = for_within (read sequence_header xs) xs

pub few : (xs : List ℕ) → (payload_part xs).place + (payload_part xs).size ≤ 65536
unfolding payload_part
few xs = ⊎_elim (λ (h : 65536 < length xs). rw (read_long sequence_header xs h) (omega arith)) (λ (h : length xs ≤ 65536). omega (arith, for_within (read sequence_header xs) xs)) (below_or 65536 (length xs))

module _ (xs : List ℕ) {p : Part} (e : p ≡ payload_part xs) where
  pub part-ends : p.place + p.size ≤ length xs
  part-ends = rw e (within xs)

  pub part_fits : p.place + p.size < 2 ^ 64
  part_fits = rw e (omega (arith, few xs))

  pub part_is : {n : ℕ} → n ≡ p.place + p.size → take (n - p.place) (drop p.place xs) ≡ part (payload_part xs) xs
  part_is {n} h = rw (← e, size h)
    where
      size : n ≡ p.place + p.size → n - p.place ≡ p.size
      size k = omega arith

  pub part-place : {block : ℕ} (offset : ℕ) → ◌≡◌ {A = ℕ × ℕ} (block, p.place + offset) (block, (payload_part xs).place + offset)
  part-place offset = rw e

-- One slice for every input: any two that the contract allows have the same bytes, and point to the same place.
pub only : {s r t : Bor (List ℕ)} → Hands s r → Hands s t → (r.now ≡ t.now) × (r.ref_ptr ≡ t.ref_ptr)
only (hands p q) (hands u v) = (p ∙ sym u, q ∙ sym v)

-- .. and it is as long as the part says.
pub handed_size : {s r : Bor (List ℕ)} → Hands s r → length r.now ≡ (payload_part s.now).size
handed_size {s} (hands p q) = ap length p ∙ length-take-le _ _ (size s.now)
  where
    size : (xs : List ℕ) → (payload_part xs).size ≤ length (drop (payload_part xs).place xs)
    size xs = simp length-drop (omega (arith, within xs))

pub ruleset parts = (behind-none, behind_no, bits-within, behind_is, behind-inside, part_none, part_some)

pub ruleset handed = (hands, part-ends, part_fits, part_is, part-place)
