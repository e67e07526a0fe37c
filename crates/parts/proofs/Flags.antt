-- A flag, and what is coded where it is set.
use mathlib.Core.Path.{◌≡◌, refl}
use mathlib.Core.Bool.{Bool, true, false}
use Rattle.bits.specs.Walk.{Walk, none, mark, either, ◌⊕◌, run, join}
use Rattle.writer.specs.Walked.{Walked}
use Rattle.writer.specs.declared.BitWriter.{BitWriter}
use Rattle.writer.proofs.Walking.{Answer as Step}
use Rattle.writer.proofs.Walking.{as_run}

module _ {b : Bool} {w : Walk} {c d : BitWriter} {s : Step} where
  pub clear : b ≡ false → Walked (mark false) c d s → Walked (mark b ⊕ either b w none) c d s
  unfolding run join
  clear h g = rw h (as_run refl g)

  pub set : b ≡ true → Walked (mark true ⊕ w) c d s → Walked (mark b ⊕ either b w none) c d s
  unfolding run join
  set h g = rw h (as_run refl g)
