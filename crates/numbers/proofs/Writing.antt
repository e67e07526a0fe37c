-- A writer's promise for a walk is its promise for every walk that runs alike.
use mathlib.Core.Path.{◌≡◌}
use mathlib.Core.List.{List}
use Prim.Native.Nat.{ℕ}
use Rattle.bits.specs.Walk.{Walk, run}
use Rattle.bits.specs.Written.{Answer}
use Rattle.parts.specs.Written.{Writes, writes, written}

pub written_as : {w v : Walk} {place : ℕ} {xs ys : List ℕ} {r : Answer} → run w ≡ run v → Writes w place xs r ys → Writes v place xs r ys
unfolding written
written_as e (writes a b) = writes (rw (← e) a) (rw (← e) b)
