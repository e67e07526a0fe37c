-- The contract of every function that reads.
use Rattle.std.specs.Prelude.{◌≡◌, ℕ, Result, Ok, Err}
use Rattle.bits.specs.Bits.{Bits}
use Rattle.bits.specs.Codec.{Codec, Got, got, and_then}
use Rattle.bits.specs.Answers.{Reads}
use Rattle.bits.specs.declared.answer.Refusal.{Refusal}
use Rattle.reader.specs.declared.BitReader.{BitReader}

-- an answer, and the place behind it
abbrev pub placed : {A : Type 0} → Result A Refusal → ℕ → Result (A × ℕ) Refusal
placed (Ok a) q = Ok (a, q)
placed (Err y) q = Err y

-- The answer g is what d reads, and the reader goes on behind it. (Of its place after a refusal nothing is said.)
-- (A data type and no record, so that a proof search takes it whole.)
pub data Said {A : Type 0} (d : Bits → Got A) (old new : BitReader) (g : Result A Refusal) : Type 0 where
  said : new.bytes ≡ old.bytes → Reads d old.bytes.now old.at (placed g new.at) → Said d old new g

-- the same of a function that reads the rest of a table, and completes the value: what was read before goes into `make`
pub data Completes {A B : Type 0} (make : A → B) (t : Codec A) (old new : BitReader) (g : Result B Refusal) : Type 0 where
  completes : Said (λ bs. and_then (t.dec bs) (λ a rest. got (make a) rest)) old new g → Completes make t old new g
