-- Signed numbers, once over the width. A signed number is a ℤ: `pos a` is a, and `negsuc m` is -(m + 1); `mag z` is a or m.
use mathlib.Core.Path.{◌≡◌, refl, ap, ◌∙◌}
use mathlib.Core.Bool.{true, false}
use Prim.Native.Nat.{ℕ, zero, suc, ◌^◌, ◌<◌}
use native.Mathlib.Nat.{zero-add}
use native.Mathlib.Omega.{arith}
use lib.IntN.{ℤ, pos, negsuc, nat_abs, ◌-ℤ◌}
use lib.Signed.{mag, lt_z, non_neg}
use lib.Dec.{leb, T}
use mir.Syntax.{Width, w32}
use mir.Val.{Fits, SFits, to_z, of_z, hbits}
use mir.Facts.{to_z-of_z, to_z_pos, sfits_widen}
use borrow.Author.Tests.{le-ltb, ltb-true}

-- what the code computes of a number's sign
flipped : (z : ℤ) → lt_z z (pos 0) ≡ true → negsuc 0 -ℤ z ≡ pos (mag z)
flipped (pos a) h = absurd (omega (arith, ltb-true a 0 h))
flipped (negsuc m) h = rw (le-ltb (suc m) 1 (omega arith)) (ap pos (omega arith))

kept : (z : ℤ) → lt_z z (pos 0) ≡ false → z ≡ pos (mag z)
kept (pos a) h = refl
kept (negsuc m) h = let e : ◌≡◌ {A = ℕ} 0 1 = cc in absurd (omega arith)

unflipped : (m : ℕ) → negsuc 0 -ℤ pos m ≡ negsuc m
unflipped zero = refl
unflipped (suc m) = rw zero-add

-- What the machine reads back of a signed number, at any width.
module _ (w : Width) (x : ℤ) (f : SFits w x) where
  pub same : to_z w (of_z w x) ≡ x
  same = to_z-of_z {w = w} f

  pub flip_fits : lt_z (to_z w (of_z w x)) (pos 0) ≡ true → SFits w (negsuc 0 -ℤ to_z w (of_z w x))
  flip_fits e = rw (same, flipped x (rw same at e)) (record { sfits = f.sfits })

  pub flip_is : lt_z (to_z w (of_z w x)) (pos 0) ≡ true → to_z w (of_z w (negsuc 0 -ℤ to_z w (of_z w x))) ≡ pos (mag x)
  flip_is e = rw (same, flipped x (rw same at e)) (to_z-of_z {w = w} (record { sfits = f.sfits }))

  pub keep_is : lt_z (to_z w (of_z w x)) (pos 0) ≡ false → to_z w (of_z w x) ≡ pos (mag x)
  keep_is e = same ∙ kept x (rw same at e)

  pub widened : (v : Width) → T (leb (hbits w) (hbits v)) → to_z v (of_z v (to_z w (of_z w x))) ≡ x
  widened v t = rw same (to_z-of_z {w = v} (sfits_widen {w = w} {w' = v} t f))

-- a number that is not below zero is cast to 32 bits
pub cast_mag : {z : ℤ} (m : ℕ) → z ≡ pos m → m < 2 ^ 31 → T (non_neg z) × Fits w32 (nat_abs z)
cast_mag m e h = rw e (tt, record { fits = omega arith })

-- a number below the half, and its flip
module _ (w : Width) (m : ℕ) (h : m < 2 ^ hbits w) where
  pub unflip_fits : SFits w (negsuc 0 -ℤ to_z w m)
  unflip_fits = rw (to_z_pos w h, unflipped) (record { sfits = h })

  pub unflip_is : to_z w (of_z w (negsuc 0 -ℤ to_z w m)) ≡ negsuc m
  unflip_is = rw (to_z_pos w h, unflipped) (to_z-of_z {w = w} (record { sfits = h }))
