-- Clipping, as the code clamps machine words of any width, and its laws.
use mathlib.Core.Path.{◌≡◌, ◌∙◌}
use mathlib.Core.Bool.{false}
use native.Mathlib.Omega.{arith}
use lib.IntN.{ℤ, pos, neg_ℤ, nat_abs, ◌-ℤ◌}
use lib.Signed.{lt_z, ◌≤ℤ◌}
use mir.Syntax.{Width}
use mir.Val.{SFits, to_z, of_z}
use Rattle.std.specs.Int.{int_max, int_min}
use Rattle.std.proofs.lemmas.Int.{ints}
use Rattle.parts.specs.Codes.{clip}
use Rattle.parts.proofs.Signs.{word}

-- what the code's `clamp` comes to
clamp_is : (low high z : ℤ) → low ≤ℤ high → int_max low (int_min z high) ≡ clip low high z
unfolding clip
clamp_is low high z h = grind (arith, ints)

module _ (w : Width) (limit : ℤ) (p : pos 0 ≤ℤ limit) (f : SFits w limit) (v r : ℤ) (g : SFits w v) where
  neg_is : to_z w (of_z w (pos 0 -ℤ to_z w (of_z w limit))) ≡ neg_ℤ limit
  neg_is = omega (arith, ints)

  pub clip-signed : r ≡ int_max (to_z w (of_z w (pos 0 -ℤ to_z w (of_z w limit)))) (int_min (to_z w (of_z w v)) (to_z w (of_z w limit))) → r ≡ clip (neg_ℤ limit) limit v
  clip-signed e = rw (neg_is, word w limit f.sfits, word w v g.sfits) at e ∙ clamp_is (neg_ℤ limit) limit v (omega (arith, ints))

  pub clip-unsigned : r ≡ int_max (pos 0) (int_min (to_z w (of_z w v)) (to_z w (of_z w limit))) → r ≡ clip (pos 0) limit v
  clip-unsigned e = rw (word w limit f.sfits, word w v g.sfits) at e ∙ clamp_is (pos 0) limit v p

-- a number clipped to 0 and more is not below 0
pub plain : (limit v : ℤ) → pos 0 ≤ℤ limit → clip (pos 0) limit v ≡ pos (nat_abs (clip (pos 0) limit v))
unfolding clip
plain limit v p = grind (arith, ints)

-- what is clipped stays
pub clip-clip : (low high : ℤ) → lt_z high low ≡ false → (z : ℤ) → clip low high (clip low high z) ≡ clip low high z
unfolding clip
clip-clip low high h z = grind (arith, ints)

-- the limits stand in order
pub signed_order : (limit : ℤ) → pos 0 ≤ℤ limit → lt_z limit (neg_ℤ limit) ≡ false
signed_order limit h = grind (arith, ints)

pub unsigned_order : (limit : ℤ) → pos 0 ≤ℤ limit → lt_z limit (pos 0) ≡ false
unsigned_order limit h = grind (arith, ints)
