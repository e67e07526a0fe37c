-- A number into a field of another type.
use mathlib.Core.Path.{◌≡◌, ◌∙◌}
use mathlib.Core.Bool.{false}
use Prim.Native.Nat.{ℕ, ◌≤◌}
use lib.IntN.{ℤ, pos, negsuc}
use lib.Signed.{mag, lt_z}
use mir.Syntax.{Width}
use mir.Val.{SFits, to_z, of_z}
use mir.Facts.{to_z-of_z}
use borrow.Author.Tests.{ltb-false}

pub inside : (m : ℕ) (z : ℤ) → lt_z z (negsuc m) ≡ false → lt_z (pos m) z ≡ false → mag z ≤ m
inside m (pos a) e f = ltb-false m a f
inside m (negsuc a) e f = ltb-false m a e

-- a number that a function found goes into a field
pub stored : (w : Width) (z : ℤ) → SFits w z → {y : ℤ} → z ≡ y → to_z w (of_z w z) ≡ y
stored w z f e = to_z-of_z {w = w} f ∙ e
