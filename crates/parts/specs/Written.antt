-- What the writer of a part answers, and what it leaves in the slice that it is lent: for every walk, every place and every slice.
use Rattle.std.specs.Prelude.{◌≡◌, List, cond, ℕ, ◌+◌, ◌*◌, ltb, length, Ok}
use Rattle.bits.specs.Bits.{Bits, put}
use Rattle.bits.specs.Walk.{Walk, End, done, refused, run}
use Rattle.bits.specs.Written.{Written, keep, whole_bytes, Answer}
use Rattle.bits.specs.declared.answer.Refusal.TheVariants.{Short, Long}

-- after a walk from a place on: its refusal; a slice that is too short; or exactly its bits stored, and the place behind them
abbrev pub after_walk : End → Bits → ℕ → List ℕ → Written
after_walk (refused r) bs place xs = keep r xs
after_walk done bs place xs =
    cond (ltb (length xs * 8) (place + length bs))
    (keep (Short (whole_bytes (place + length bs))) xs)
    (record { answer = Ok (place + length bs); bytes = put xs place bs })

-- a slice over 65,536 bytes is refused before the walk
unfoldable pub written : Walk → ℕ → List ℕ → Written
written w place xs = cond (ltb 65536 (length xs)) (keep Long xs) (after_walk (run w).end (run w).bits place xs)

-- The contract of every part's writer: its answer, and what it leaves in the slice.
-- (One constructor over its two equations, and no record, so that a proof search takes it whole.)
pub data Writes (w : Walk) (place : ℕ) (xs : List ℕ) (r : Answer) (ys : List ℕ) : Type 0 where
  writes : r ≡ (written w place xs).answer → ys ≡ (written w place xs).bytes → Writes w place xs r ys
