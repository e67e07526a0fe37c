-- The contract of every function that writes: over a writer's bytes, from its place on, a walk comes to an answer.
use Rattle.std.specs.Prelude.{◌≡◌, ℕ, ◌+◌, min, max, length, Result, Ok, Err}
use Rattle.bits.specs.Bits.{put, limit}
use Rattle.bits.specs.Walk.{Walk, End, done, refused, run}
use Rattle.bits.specs.declared.answer.Refusal.{Refusal}
use Rattle.writer.specs.declared.BitWriter.{BitWriter}

-- the place n bits further on, which goes no further than the limit
abbrev pub forward : ℕ → ℕ → ℕ
forward at n = max at (min (at + n) limit)

-- what a walk that ended so answers
abbrev pub answer : End → Result Unit Refusal
answer done = Ok tt
answer (refused r) = Err r

-- From the writer `old` on, the walk w comes to the answer s, and leaves the writer `new`: its bits stored from the old place on, whether all of them
-- or those before a refusal, and the place behind them; the slice is the one that was lent.
-- (One constructor over its equations, and no record, so that a proof search takes it whole.)
pub data Walked (w : Walk) (old new : BitWriter) (s : Result Unit Refusal) : Type 0 where
  walked : s ≡ answer (run w).end → new.at ≡ forward old.at (length (run w).bits) → new.out.now ≡ put old.out.now old.at (run w).bits
      → new.out.ghost_name ≡ old.out.ghost_name → Walked w old new s
