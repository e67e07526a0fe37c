-- What the calls leave: each way from a function's answer to the lent arrays.
use mathlib.Core.Path.{◌≡◌, refl, ap, ◌∙◌}
use mathlib.Core.List.{List, [], ◌∷◌}
use Prim.Native.Nat.{ℕ, ◌<◌, ◌^◌}
use native.Mathlib.Omega.{arith}
use Rattle.std.specs.Prelude.{Result, Ok}
use Rattle.std.specs.Result.{result_and}
use Rattle.bits.specs.Walk.{Walk}
use lib.IntN.{ℤ}
use Rattle.bits.specs.Codec.{Codec, Got, got, stop}
use Rattle.bits.specs.Written.{Answer, answer_numbers}
use Rattle.bits.specs.declared.answer.Numbered.{Numbered}
use Rattle.bits.specs.declared.answer.Refusal.{Refusal}
use Rattle.obu.specs.Demand3.{read}
use Rattle.obu.specs.Writer as obu
use Rattle.parts.specs.Written as part
use Rattle.parts_reader.specs.Reading.{In, Tells, tells}
use Rattle.sequence.specs.declared.record.SequenceHeaderObu.{SequenceHeaderObu}
use Rattle.sequence.specs.Sequence.{sequence_header}
use Rattle.sequence_reader.specs.declared.read.Part.{Part}
use Rattle.sequence_reader.specs.Reader.{Answered, answer_for, Answers}
use Rattle.sequence_reader.specs.Payload.{payload_part}
use Rattle.sequence_reader.proofs.PayloadParts.{few}
use Rattle.friscurella.specs.Calls.{answer_of, lent, told, wrote_obu, wrote_part, was_read, part_was_read, part_numbers}

module _ {l : List ℕ} {m : ℕ} {n : Numbered} (says : (m ≡ n.number) × (l ≡ answer_of n)) where
  -- a writer's answer, told by its numbers
  module _ {r : Answer} {xs ys : List ℕ} (is : n ≡ answer_numbers r) (w : Walk) where
    pub obu_crosses : obu.Writes w xs r ys → lent m l ys ≡ wrote_obu w xs
    obu_crosses (obu.writes a b) = rw (says.0, says.1, is, a, b)

    pub part_crosses : {place : ℕ} → part.Writes w place xs r ys → lent m l ys ≡ wrote_part w place xs
    part_crosses (part.writes a b) = rw (says.0, says.1, is, a, b)

  -- a part's reader's answer, told by its numbers
  module _ {B : Type 0} (layout : In B) (by : List ℤ → Codec B) {r : Answer} {place : ℕ} {xs : List ℕ} {ns ms : List ℤ} (is : n ≡ answer_numbers r) where
    pub part-read_crosses : Tells layout (by ns) place xs ns r ms → lent m l ms ≡ part_was_read layout by place xs ns
    part-read_crosses (tells a b) = rw (says.0, says.1, is, a, b)

  -- the reader's answer
  module _ (xs old : List ℕ) {ns : List ℕ} {o : Result Unit Refusal} (is : n ≡ answer_numbers (result_and o (Ok 0))) where
    pub read_crosses : Answers xs old o ns → lent m l ns ≡ was_read (read sequence_header xs) old
    unfolding answer_for
    read_crosses e = rw (says.0, says.1, is) (ap (λ (a : Answered). told (answer_numbers (result_and a.outcome (Ok 0))) a.numbers) e ∙ go (read sequence_header xs))
      where
        go : (g : Got SequenceHeaderObu) → told (answer_numbers (result_and (answer_for g old).outcome (Ok 0))) (answer_for g old).numbers ≡ was_read g old
        go (got h rest) = refl
        go (stop r) = refl

-- the payload's part
module _ (xs : List ℕ) {p : Part} (e : p ≡ payload_part xs) where
  pub place_fits : p.place < 2 ^ 32
  place_fits = rw e (omega (arith, few xs))

  pub size_fits : p.size < 2 ^ 32
  size_fits = rw e (omega (arith, few xs))

  pub payload_crosses : p.place ∷ p.size ∷ [] ≡ part_numbers (payload_part xs)
  payload_crosses = ap part_numbers e
