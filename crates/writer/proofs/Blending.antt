-- Several bits of a number replaced: what the code computes, and the bits.
use mathlib.Core.Path.{◌≡◌, sym, ap, ◌∙◌, subst}
use mathlib.Core.List.{◌++◌, append_assoc}
use Prim.Native.Nat.{ℕ, ◌+◌, ◌-◌, ◌*◌, ◌/◌, ◌%◌, ◌^◌, ◌≤◌, ◌<◌}
use native.Mathlib.Omega.{arith}
use native.Mathlib.Nat.{mod-lt, mod-eq_of_lt, add-mul, add_comm, mul_assoc}
use lib.Arith.{digits_lt}
use lib.Pow.{pow_pos, pow-add, shr_lt, shr-shr, split}
use Rattle.bits.specs.Bits.{Bits, to_bits}
use Rattle.writer.specs.Blend.{blend}
use Rattle.bits.proofs.Numbers.{to_bits_mod}
use Rattle.bits.proofs.Words.{bits-join}

-- A number w: h, then n bits, which are made m, and l in d bits.
module _ (w n d : ℕ) where
  abbrev h : ℕ
  h = w / 2 ^ d / 2 ^ n

  abbrev l : ℕ
  l = w % 2 ^ d

  pub made : ℕ → ℕ
  made m = (h * 2 ^ n + m) * 2 ^ d + l

  pub own : w ≡ made (w / 2 ^ d % 2 ^ n)
  unfolding made
  own = sym (split w d) ∙ ap (λ (x : ℕ). x * 2 ^ d + l) (sym (split (w / 2 ^ d) n))

  apart : (m : ℕ) → made m ≡ h * 2 ^ n * 2 ^ d + m * 2 ^ d + l
  unfolding made
  apart m = ap (λ (x : ℕ). x + l) (add-mul (h * 2 ^ n) m (2 ^ d))

  made_is : (m : ℕ) → w - w / 2 ^ d % 2 ^ n * 2 ^ d + m * 2 ^ d ≡ made m
  made_is m = omega (arith, own ∙ apart (w / 2 ^ d % 2 ^ n), apart m)

  old_most : w / 2 ^ d % 2 ^ n * 2 ^ d ≤ w
  old_most = omega (arith, own ∙ apart (w / 2 ^ d % 2 ^ n))

  blend-made : (v : ℕ) → blend w n d v ≡ made (v % 2 ^ n)
  unfolding blend
  blend-made v =
      let a : w / 2 ^ (n + d) ≡ h = ap (λ (k : ℕ). w / 2 ^ k) (add_comm n d) ∙ sym (shr-shr w d n) in
      let b : h * 2 ^ (n + d) ≡ h * 2 ^ n * 2 ^ d = ap (λ (x : ℕ). h * x) (pow-add 2 n d) ∙ sym (mul_assoc h (2 ^ n) (2 ^ d)) in
      rw (a, b) (sym (apart (v % 2 ^ n)))

  -- in 64 bits, of which r are h
  module _ (r : ℕ) where
    made-few : r + n + d ≡ 64 → w < 2 ^ 64 → (m : ℕ) → m < 2 ^ n → made m < 2 ^ 64
    unfolding made
    made-few s b m c =
        let j : h < 2 ^ r = shr_lt r n (shr_lt (r + n) d (subst (λ (k : ℕ). w < 2 ^ k) (sym s) b)) in
        let k : made m < 2 ^ r * 2 ^ n * 2 ^ d = digits_lt (digits_lt j c) (mod-lt w (pow_pos d)) in
        let e : 2 ^ r * 2 ^ n * 2 ^ d ≡ 2 ^ (r + n + d) = ap (λ (x : ℕ). x * 2 ^ d) (sym (pow-add 2 r n)) ∙ sym (pow-add 2 (r + n) d) in
        subst (λ (k : ℕ). made m < 2 ^ k) s (subst (λ (x : ℕ). made m < x) e k)

    module _ (s : r + n + d ≡ 64) where
      pub made_bits : (m : ℕ) → m < 2 ^ n → to_bits 64 (made m) ≡ to_bits r h ++ (to_bits n m ++ to_bits d l)
      unfolding made
      made_bits m c =
          ap (λ (k : ℕ). to_bits k (made m)) (sym s)
          ∙ bits-join (r + n) d (h * 2 ^ n + m) l (mod-lt w (pow_pos d))
          ∙ ap (λ (y : Bits). y ++ to_bits d l) (bits-join r n h m c)
          ∙ append_assoc (to_bits r h) (to_bits n m) (to_bits d l)

pub blend-bits : (w n d r v : ℕ) → r + n + d ≡ 64 → to_bits 64 (blend w n d v) ≡ to_bits r (w / 2 ^ d / 2 ^ n) ++ (to_bits n v ++ to_bits d (w % 2 ^ d))
blend-bits w n d r v s =
    ap (to_bits 64) (blend-made w n d v)
    ∙ made_bits w n d r s (v % 2 ^ n) (mod-lt v (pow_pos n))
    ∙ ap (λ (y : Bits). to_bits r (w / 2 ^ d / 2 ^ n) ++ (y ++ to_bits d (w % 2 ^ d))) (to_bits_mod n n v (omega arith))

-- What the code computes, with 2 ^ n by the name that it has for it.
module _ (w n d v p : ℕ) (a : n + d ≤ 64) (b : w < 2 ^ 64) (q : p ≡ 2 ^ n) where
  s : 64 - n - d + n + d ≡ 64
  s = omega arith

  few : blend w n d v < 2 ^ 64
  few = rw (blend-made w n d v) (made-few w n d (64 - n - d) s b (v % 2 ^ n) (mod-lt v (pow_pos n)))

  old_exact : w / 2 ^ d % 2 ^ n * 2 ^ d % 2 ^ 64 ≡ w / 2 ^ d % 2 ^ n * 2 ^ d
  old_exact = mod-eq_of_lt (omega (arith, old_most w n d))

  new_exact : v % 2 ^ n * 2 ^ d % 2 ^ 64 ≡ v % 2 ^ n * 2 ^ d
  new_exact = mod-eq_of_lt (omega (arith, few, blend-made w n d v, apart w n d (v % 2 ^ n)))

  pub blend_is : w - w / 2 ^ d % p * 2 ^ d % 2 ^ 64 + v % p * 2 ^ d % 2 ^ 64 ≡ blend w n d v
  blend_is = rw (q, old_exact, new_exact) (made_is w n d (v % 2 ^ n) ∙ sym (blend-made w n d v))

  pub blend_old : w / 2 ^ d % p * 2 ^ d % 2 ^ 64 ≤ w
  blend_old = rw (q, old_exact) (old_most w n d)

  pub blend-sum : w - w / 2 ^ d % p * 2 ^ d % 2 ^ 64 + v % p * 2 ^ d % 2 ^ 64 < 2 ^ 64
  blend-sum = rw blend_is few
