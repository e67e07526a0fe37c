use mathlib.Core.Path.{◌≡◌, refl, ap, ◌∙◌}
use mathlib.Core.Bool.{Bool, true, false, cond}
use Prim.Native.Nat.{ℕ, ◌≤◌, ◌<◌, ◌^◌}
use native.Mathlib.Omega.{arith}
use lib.Dec.{ltb}
use lib.IntN.{ℤ, pos, negsuc}
use lib.Signed.{mag, lt_z}
use mir.Syntax.{w16, w32}
use mir.Val.{to_z, of_z}
use Rattle.std.specs.Int.{int_max, int_min}
use Rattle.parts.specs.Codes.{clip}
use Rattle.parts.proofs.Signs.{word}
use Rattle.numbers.specs.Numbers.{signed_at}
use Rattle.numbers.proofs.Narrowing.{inside}
use Rattle.numbers.proofs.int16.Goals as goal

-- std's way of saying it
as_clip : (m : ℕ) (z : ℤ) → int_max (negsuc m) (int_min z (pos m)) ≡ clip (negsuc m) (pos m) z
unfolding clip
as_clip m (pos a) = go (ltb m a)
  where
    go : (t : Bool) → int_max (negsuc m) (cond t (pos m) (pos a)) ≡ cond t (pos m) (pos a)
    go true = refl
    go false = refl
as_clip m (negsuc a) = refl

-- what is clipped fits
small : (m : ℕ) (z : ℤ) → mag (clip (negsuc m) (pos m) z) ≤ m
unfolding clip
small m z = go (lt_z z (negsuc m)) refl (lt_z (pos m) z) refl
  where
    go : (t : Bool) → lt_z z (negsuc m) ≡ t → (u : Bool) → lt_z (pos m) z ≡ u → mag (cond t (negsuc m) (cond u (pos m) z)) ≤ m
    go true e u f = omega arith
    go false e true f = omega arith
    go false e false f = inside m z e f

pub returns : goal.returns
returns c =
    let n = word w32 c.number.result c.number.type_inv ∙ c.number.ensures in
    let q = c.clamp.ensures.value ∙ as_clip 32767 (to_z w32 (of_z w32 c.number.result)) ∙ ap (clip (negsuc 32767) (pos 32767)) n in
    let l : mag c.clamp.result < 2 ^ 15 = rw q (omega (arith, small 32767 (signed_at c.args.n.now c.args.i))) in
    rw (word w32 c.clamp.result c.clamp.type_inv) (word w16 c.clamp.result l ∙ q)
