-- A field read out of all its bytes at once.
use mathlib.Core.Path.{◌≡◌, ◌∙◌, ap}
use mathlib.Core.List.{List, ◌++◌, append_assoc}
use Prim.Native.Nat.{ℕ, ◌+◌, ◌-◌, ◌*◌, ◌^◌, ◌/◌, ◌%◌, ◌<◌, ◌≤◌}
use native.Mathlib.Omega.{arith}
use native.Mathlib.Nat.{mod-lt}
use lib.ListN.{drop}
use lib.Seq.{drop_at}
use lib.Pow.{pow_mono, pow_pos}
use Rattle.bits.specs.Bits.{Bits, to_bits, from}
use Rattle.bits.specs.Codec.{got, f}
use Rattle.bits.proofs.Numbers.{length-to_bits}
use Rattle.bits.proofs.Places.{from-drop}
use Rattle.bits.proofs.Words.{Window, bits_split}
use Rattle.reader.proofs.Fields.{read_taken}

-- at most five bytes: what was read of them
pub window_low : {m : ℕ} {xs : List ℕ} {i v k j : ℕ} → Window m xs i v k j → m ≤ 5 → k < m → v < 4294967296
window_low {k = k} g l h = let p : 2 ^ (k * 8) ≤ 2 ^ 32 = pow_mono {j = 32} (omega arith) in omega (arith, g.small)

-- the bits of the bytes that n bits can lie in
abbrev wide : ℕ → ℕ
wide n = (n + 14) / 8 * 8

-- A field of n bits in the window of its first byte, above d low bits
module _ (xs : List ℕ) (at n d v : ℕ) (e : d ≡ wide n - at % 8 - n) (w : from xs (at / 8 * 8) ≡ to_bits (wide n) v ++ from xs (at / 8 * 8 + wide n)) where
  window_from : from xs at ≡ to_bits n (v / 2 ^ d) ++ (to_bits d v ++ from xs (at / 8 * 8 + wide n))
  window_from =
      let r = at % 8 in
      let a : at ≡ at / 8 * 8 + r = omega arith in
      let s : wide n ≡ r + (n + d) = omega arith in
      let t : to_bits (wide n) v ≡ to_bits r (v / 2 ^ (n + d)) ++ (to_bits n (v / 2 ^ d) ++ to_bits d v) = ap (λ (j : ℕ). to_bits j v) s ∙ bits_split r (n + d) v ∙ ap (λ (y : Bits). to_bits r (v / 2 ^ (n + d)) ++ y) (bits_split n d v) in
      let z : Bits = from xs (at / 8 * 8 + wide n) in
      ap (from xs) a ∙ from-drop xs (at / 8 * 8) r ∙ ap (drop r) (w ∙ ap (λ (y : Bits). y ++ z) t ∙ append_assoc (to_bits r (v / 2 ^ (n + d))) (to_bits n (v / 2 ^ d) ++ to_bits d v) z)
      ∙ drop_at (to_bits r (v / 2 ^ (n + d))) ((to_bits n (v / 2 ^ d) ++ to_bits d v) ++ z) r (length-to_bits r (v / 2 ^ (n + d)))
      ∙ append_assoc (to_bits n (v / 2 ^ d)) (to_bits d v) z

  pub window_got : (p : ℕ) → p ≡ 2 ^ n → (f n 0 0).dec (from xs at) ≡ got (v / 2 ^ d % p) (from xs (at + n))
  window_got p q = rw q (read_taken n (v / 2 ^ d) xs at (to_bits d v ++ from xs (at / 8 * 8 + wide n)) window_from)

pub window_value : (v n p : ℕ) → n ≤ 32 → p ≡ 2 ^ n → v % p < 2 ^ 32
window_value v n p h q =
    let m : 2 ^ n ≤ 2 ^ 32 = pow_mono {j = 32} h in
    let b : v % p < 2 ^ n = rw q (mod-lt v (pow_pos n)) in
    omega arith
