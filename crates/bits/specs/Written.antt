-- What a public writer answers and what it leaves in the slice that it is lent, of a whole OBU and of a part.
use Rattle.std.specs.Prelude.{List, ℕ, ◌+◌, ◌/◌, Result, Ok, Err}
use Rattle.bits.specs.Answers.{numbered}
use Rattle.bits.specs.declared.answer.Numbered.{Numbered}
use Rattle.bits.specs.declared.answer.Refusal.{Refusal}

-- a public writer's answer: how many bytes were written, or of a part the bit behind it; or why nothing was
abbrev pub Answer : Type 0
Answer = Result ℕ Refusal

-- Document 01, "Numbers returned": 0 and the bytes written, or the end bit of a part; or the refusal's.
abbrev pub answer_numbers : Answer → Numbered
answer_numbers (Ok n) = record { number = 0; first = n; second = 0; third = 0 }
answer_numbers (Err r) = numbered r

-- the answer, and what the slice holds
pub record Written : Type 0 where
  pub answer : Answer
  pub bytes : List ℕ

-- a refusal leaves the slice as it is
abbrev pub keep : Refusal → List ℕ → Written
keep r xs = record { answer = Err r; bytes = xs }

-- the bytes that n bits take
abbrev pub whole_bytes : ℕ → ℕ
whole_bytes n = (n + 7) / 8
