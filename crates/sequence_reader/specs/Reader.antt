-- What the public reader answers, and what it leaves in the numbers that it is lent.
use Rattle.std.specs.Prelude.{◌≡◌, List, [], ℕ, Result, Ok, Err}
use Rattle.bits.specs.Codec.{Got, got, stop, and_then, Nil, nil}
use Rattle.bits.specs.declared.answer.Refusal.{Refusal}
use Rattle.obu.specs.Demand3.{read}
use Rattle.sequence.specs.declared.record.SequenceHeaderObu.{SequenceHeaderObu}
use Rattle.sequence.specs.Sequence.{sequence_header}
use Rattle.sequence_reader.specs.Layouts.{header, numbers_of}

pub record Answered : Type 0 where
  pub outcome : Result Nil Refusal
  pub numbers : List ℕ

abbrev pub answer : Result Nil Refusal → List ℕ → Answered
answer o ns = record { outcome = o; numbers = ns }

-- the record's numbers; where there is none, the numbers ns that were lent
unfoldable pub answer_for : Got SequenceHeaderObu → List ℕ → Answered
answer_for (got h rest) ns = answer (Ok nil) (numbers_of h)
answer_for (stop r) ns = answer (Err r) ns

-- The contract of `read_sequence_header`: to the bytes xs, lent the numbers ns, it answers o and leaves ms.
abbrev pub Answers : List ℕ → List ℕ → Result Nil Refusal → List ℕ → Type 0
Answers xs ns o ms = answer o ms ≡ answer_for (read sequence_header xs) ns

-- The same of a function inside, which fills the numbers and leaves anything where it refuses.
abbrev pub told : Result Nil Refusal → List ℕ → Got (List ℕ)
told (Ok u) ns = got ns []
told (Err r) ns = stop r

pub data Holds (xs ns : List ℕ) (o : Result Nil Refusal) (ms : List ℕ) : Type 0 where
  holds : and_then (read sequence_header xs) (λ h rest. got ((header.from 0).put h ns) []) ≡ told o ms → Holds xs ns o ms
