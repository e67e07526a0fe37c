-- What the public reader answers: each way out, in the order of the walk.
use mathlib.Core.Path.{◌≡◌, refl, sym, ap, ◌∙◌}
use mathlib.Core.List.{List, [], ◌∷◌}
use Prim.Native.Nat.{ℕ, ◌<◌, ◌≤◌}
use lib.ListN.{length, replicate}
use lib.Seq.{sets}
use mir.Val.{bool_byte}
use denote.Ref.{Bor}
use Rattle.std.specs.Prelude.{Result, Ok, Err, IsErrAnd}
use Rattle.bits.specs.Bits.{Bits}
use Rattle.bits.specs.Codec.{Got, got, stop, and_then, Nil, nil}
use Rattle.bits.specs.declared.answer.Refusal.{Refusal}
use Rattle.bits.specs.declared.answer.Refusal.TheVariants.{Long}
use Rattle.bits.proofs.Laws.{stop-got, got-value}
use Rattle.reader.specs.declared.BitReader.{BitReader}
use Rattle.reader.specs.Reading.{Said}
use Rattle.reader.proofs.Reading.{exit, reads, kept}
use Rattle.obu.specs.declared.header.ObuHeader.{ObuHeader}
use Rattle.obu.specs.Header.{obu_header}
use Rattle.obu.specs.Framing.{read_size, read_trailing}
use Rattle.obu.specs.Obu.{obu}
use Rattle.obu.specs.Demand3.{read}
use Rattle.obu.proofs.ObuReading.{read_long, no_header, no_size, no_payload, no_tail, all_read}
use Rattle.fill.specs.Fills.{at, of, nowhere, ◌▸◌, Fills}
use Rattle.fill.proofs.Filling.{Was, filled, stopped}
use Rattle.sequence.specs.declared.record.SequenceHeaderObu.{SequenceHeaderObu}
use Rattle.sequence.specs.Fields.{record_out, record_in}
use Rattle.sequence.specs.Sequence.{sequence_header_obu, sequence_header}
use Rattle.sequence.proofs.Demand.{struct-read}
use Rattle.sequence_reader.specs.Layouts as row
use Rattle.sequence_reader.specs.Places.{numbers}
use Rattle.sequence_reader.specs.Reader.{answer_for, Answers, Holds, holds}

-- the record is made of the header and the table's value
as_record : (xs : List ℕ) → read sequence_header xs ≡ and_then (read (obu 1 sequence_header_obu) xs) (λ a rest. got (record_in a) rest)
unfolding sequence_header
as_record xs = struct-read record_out record_in (obu 1 sequence_header_obu) xs

no : (xs ns ms : List ℕ) {y : Refusal} → read (obu 1 sequence_header_obu) xs ≡ stop y → Holds xs ns (Err y) ms
no xs ns ms e = holds (rw (as_record xs, e))

pub too_long : (xs ns ms : List ℕ) → 65536 < length xs → Holds xs ns (Err Long) ms
too_long xs ns ms l = no xs ns ms (read_long (obu 1 sequence_header_obu) xs l)

-- the header's numbers
abbrev headed : List ℕ → ObuHeader → List ℕ
headed ns h = sets ns 0 (h.obu_type ∷ bool_byte h.extension_flag ∷ bool_byte h.has_size_field ∷ h.temporal_id ∷ h.spatial_id ∷ [])

-- the steps of the walk, over the reader s of the whole input x
module _ {x : Bor (List ℕ)} {s : BitReader} (is : (s.bytes ≡ x) × (s.at ≡ 0)) (ns ms : List ℕ) (few : length x.now ≤ 65536) where
  short : length s.bytes.now ≤ 65536
  short = rw is.0 few

  not_read : {y : Refusal} {r : Result Nil Refusal} → read (obu 1 sequence_header_obu) s.bytes.now ≡ stop y → IsErrAnd r (λ z. z ≡ y) → Holds x.now ns r ms
  not_read e i = rw (exit i) (no x.now ns ms (rw is.0 at e))

  module _ {a : BitReader} where
    pub header-stop : {y : Refusal} {r : Result Nil Refusal} → Said (obu_header 1).dec s a (Err y) → IsErrAnd r (λ z. z ≡ y) → Holds x.now ns r ms
    header-stop H i = not_read (no_header 1 sequence_header_obu s is.1 short H) i

    module _ {h : ObuHeader} (H : Said (obu_header 1).dec s a (Ok h)) {b : BitReader} where
      pub size-stop : {y : Refusal} {r : Result Nil Refusal} → Said (read_size h.has_size_field) a b (Err y) → IsErrAnd r (λ z. z ≡ y) → Holds x.now ns r ms
      size-stop Z i = not_read (no_size 1 sequence_header_obu s is.1 short H Z) i

      module _ {u : Nil} (Z : Said (read_size h.has_size_field) a b (Ok u)) {c : BitReader} where
        pub body-stop : {y : Refusal} {r : Result Nil Refusal} → Fills ((row.sequence).from 5) sequence_header_obu.dec b c (Err y) (headed ns h) ms → IsErrAnd r (λ z. z ≡ y) → Holds x.now ns r ms
        body-stop B i = not_read (no_payload 1 sequence_header_obu s is.1 short H Z (reads (stopped B))) i

        pub tail_held : {v : Nil} {d : BitReader} {r : Result Nil Refusal} → Fills ((row.sequence).from 5) sequence_header_obu.dec b c (Ok v) (headed ns h) ms → Said read_trailing c d r → Holds x.now ns r ms
        unfolding of at nowhere ◌▸◌
        tail_held {d = d} B T = go (filled B) _ T
          where
            go : Was (λ a. ((row.sequence).from 5).put a (headed ns h)) sequence_header_obu.dec b c ms → (r : Result Nil Refusal) → Said read_trailing c d r → Holds x.now ns r ms
            go w (Ok o) t =
                let e : read (obu 1 sequence_header_obu) s.bytes.now ≡ got (h, w.it) [] = all_read 1 sequence_header_obu s is.1 short H Z (kept w.reads) (reads w.reads) t in
                holds (rw (as_record x.now, rw is.0 at e) (ap (λ (l : List ℕ). got l []) (sym w.made)))
            go w (Err y) t = not_read (no_tail 1 sequence_header_obu s is.1 short H Z (kept w.reads) (reads w.reads) t) refl

-- what was read, where the answer is that it was
pub record Held (xs ns ms : List ℕ) : Type 0 where
  pub it : SequenceHeaderObu
  pub rest : Bits
  pub reads : read sequence_header xs ≡ got it rest
  pub is : ms ≡ ((row.header).from 0).put it ns

module _ {xs ns ms : List ℕ} where
  pub was_held : {u : Nil} → Holds xs ns (Ok u) ms → Held xs ns ms
  was_held (holds r) = go (read sequence_header xs) refl
    where
      go : (g : Got SequenceHeaderObu) → read sequence_header xs ≡ g → Held xs ns ms
      go (got h rest) k = record { it = h; rest = rest; reads = k; is = sym (got-value (rw k at r)) }
      go (stop y) k = absurd (stop-got (rw k at r))

  pub not-held : {y : Refusal} → Holds xs ns (Err y) ms → read sequence_header xs ≡ stop y
  not-held {y} (holds r) = go (read sequence_header xs) refl
    where
      go : (g : Got SequenceHeaderObu) → read sequence_header xs ≡ g → read sequence_header xs ≡ stop y
      go (got h rest) k = absurd (stop-got (sym (rw k at r)))
      go (stop z) k = let w : ◌≡◌ {A = Got (List ℕ)} (stop z) (stop y) = rw k at r in let u : z ≡ y = cc in k ∙ ap stop u

-- the public call: the numbers are filled from zeros on, and copied
module _ {xs : List ℕ} (ns : List ℕ) {ms : List ℕ} where
  pub answer-done : {u : Nil} → Holds xs (replicate numbers 0) (Ok u) ms → Answers xs ns (Ok nil) ms
  unfolding answer_for row.numbers_of
  answer-done i = go (was_held i)
    where
      go : Held xs (replicate numbers 0) ms → Answers xs ns (Ok nil) ms
      go h = rw (h.reads, h.is) refl

  pub answer-not : {y : Refusal} {r : Result Nil Refusal} → Holds xs (replicate numbers 0) (Err y) ms → IsErrAnd r (λ z. z ≡ y) → Answers xs ns r ns
  unfolding answer_for
  answer-not i e = rw (not-held i, exit e) refl

pub ruleset answerings = (too_long, header-stop, size-stop, body-stop, tail_held, answer-done, answer-not)
