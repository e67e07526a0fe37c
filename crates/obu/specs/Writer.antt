-- What a writer of a whole OBU answers, and what it leaves in the slice that it is lent: for every walk and every slice (document 01, "Writing").
use Rattle.std.specs.Prelude.{◌≡◌, List, cond, ℕ, ltb, length, Result, Ok, Err}
use Rattle.bits.specs.Bits.{Bits, put}
use Rattle.bits.specs.Walk.{Walk, End, done, refused, run}
use Rattle.bits.specs.Answers.{capped}
use Rattle.bits.specs.Written.{Written, whole_bytes, Answer}
use Rattle.bits.specs.declared.answer.Refusal.{Refusal}
use Rattle.bits.specs.declared.answer.Refusal.TheVariants.{Short, Long}

-- The answer to a walk that ended so, with n bits, where the slice has len bytes: refusal 8; then the walk's; then 3, with the least length that is
-- enough; else the number of bytes.
abbrev pub after_walk : End → ℕ → ℕ → Answer
after_walk (refused r) n len = Err r
after_walk done n len = cond (ltb len (whole_bytes n)) (Err (Short (whole_bytes n))) (Ok (whole_bytes n))

abbrev pub answer_to : End → ℕ → ℕ → Answer
answer_to e n len = cond (ltb 65536 len) (Err Long) (after_walk e n len)

-- what is left in the slice: a refusal leaves every byte; done, the bits stand at the start, and every byte beyond them is kept
abbrev pub stored : Answer → Bits → List ℕ → List ℕ
stored (Err r) bs xs = xs
stored (Ok n) bs xs = put xs 0 bs

unfoldable pub written : Walk → List ℕ → Written
written w xs = let a = answer_to (run w).end (length (run w).bits) (length xs) in record { answer = a; bytes = stored a (run w).bits xs }

-- The contract of a public writer: its answer, and what it leaves in the slice.
-- (A data type and no record, so that a proof search takes it whole.)
pub data Writes (w : Walk) (xs : List ℕ) (r : Answer) (ys : List ℕ) : Type 0 where
  writes : r ≡ (written w xs).answer → ys ≡ (written w xs).bytes → Writes w xs r ys

-- The same answer, told by that of a walk that began at place 0 and left the slice alone, over an empty part of it or over an array; n bits were written.
abbrev pub after_answer : Result Unit Refusal → ℕ → ℕ → Answer
after_answer (Err r) n len = Err r
after_answer (Ok u) n len = cond (ltb len (whole_bytes n)) (Err (Short (capped (whole_bytes n)))) (Ok (capped (whole_bytes n)))

unfoldable pub verdict : Result Unit Refusal → ℕ → ℕ → Answer
verdict s n len = cond (ltb 65536 len) (Err Long) (after_answer s n len)
