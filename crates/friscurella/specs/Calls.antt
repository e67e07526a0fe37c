-- What each call leaves in the arrays and the buffer that it is lent.
use Rattle.std.specs.Prelude.{List, [], ◌∷◌, ℕ, ℤ}
use Rattle.bits.specs.Walk.{Walk}
use Rattle.bits.specs.Codec.{Codec, Got, got, stop}
use Rattle.bits.specs.Answers.{numbered, plain}
use Rattle.bits.specs.Written.{answer_numbers}
use Rattle.bits.specs.declared.answer.Numbered.{Numbered}
use Rattle.obu.specs.Writer as obu
use Rattle.parts.specs.Written as part
use Rattle.parts_reader.specs.Reading.{In, read_part}
use Rattle.parts_reader.specs.Reading.{told as part-told}
use Rattle.sequence.specs.declared.record.SequenceHeaderObu.{SequenceHeaderObu}
use Rattle.sequence_reader.specs.Layouts.{numbers_of}
use Rattle.sequence_reader.specs.declared.read.Part.{Part}

-- 10000 * major + 100 * minor + patch
abbrev pub version : ℕ
version = 600

-- an answer: its number and its three values
abbrev pub answer_of : Numbered → List ℕ
answer_of n = n.number ∷ n.first ∷ n.second ∷ n.third ∷ []

-- what a call returns, and leaves in what it is lent: its answer, and the buffer or the record's numbers
pub record Lent (N : Type 0) : Type 0 where
  pub returned : ℕ
  pub answer : List ℕ
  pub other : List N

abbrev pub lent : {N : Type 0} → ℕ → List ℕ → List N → Lent N
lent n a b = record { returned = n; answer = a; other = b }

abbrev pub told : {N : Type 0} → Numbered → List N → Lent N
told n b = lent n.number (answer_of n) b

-- a writer of an OBU, and of a part
abbrev pub wrote_obu : Walk → List ℕ → Lent ℕ
wrote_obu w xs = told (answer_numbers (obu.written w xs).answer) (obu.written w xs).bytes

abbrev pub wrote_part : Walk → ℕ → List ℕ → Lent ℕ
wrote_part w place xs = told (answer_numbers (part.written w place xs).answer) (part.written w place xs).bytes

-- the reader, with a record's array that holds xs: number 0 and the record's numbers where it accepts; where it refuses, the array is as it was
abbrev pub was_read : Got SequenceHeaderObu → List ℕ → Lent ℕ
was_read (got h rest) xs = told (plain 0) (numbers_of h)
was_read (stop r) xs = told (numbered r) xs

-- a part's reader, by the table of a record's array that holds ns: number 0, the bit behind the part, and the record's numbers behind its context; where it
-- refuses, the array is as it was
abbrev pub part_was_read : {A : Type 0} → In A → (List ℤ → Codec A) → ℕ → List ℕ → List ℤ → Lent ℤ
part_was_read l by place xs ns = told (answer_numbers (part-told l ns (read_part (by ns) place xs)).answer) (part-told l ns (read_part (by ns) place xs)).numbers

-- the first byte of a part, and how many it has
abbrev pub part_numbers : Part → List ℕ
part_numbers p = p.place ∷ p.size ∷ []
