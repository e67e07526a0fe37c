-- A number in n bits: there and back, over every width at once.
use mathlib.Core.Path.{◌≡◌, refl, sym, ◌∙◌, ap, subst}
use mathlib.Core.List.{[], ◌∷◌}
use mathlib.Core.Bool.{Bool, true, false}
use Prim.Native.Nat.{ℕ, zero, suc, ◌+◌, ◌-◌, ◌*◌, ◌^◌, ◌/◌, ◌%◌, ◌<◌, ◌≤◌}
use native.Mathlib.Omega.{arith}
use native.Mathlib.Nat.{mod-lt, mod-eq_of_lt, mod-one}
use lib.ListN.{length}
use lib.Pow.{mod-pow-add, field, mod-mod-pow, high, low, pow_pos}
use lib.Dec.{eqb, lit<}
use Rattle.bits.specs.Bits.{Bits, bit, bit_at, to_bits, from_bits}

pub length-to_bits : (n v : ℕ) → length (to_bits n v) ≡ n
unfolding to_bits
length-to_bits zero v = refl
length-to_bits (suc n) v = ap suc (length-to_bits n v)

pub bit-of_two : (x : ℕ) → x < 2 → bit (eqb x 1) ≡ x
bit-of_two zero h = refl
bit-of_two (suc zero) h = refl
bit-of_two (suc (suc x)) h = absurd (omega arith)

pub bit-back : (b : Bool) → eqb (bit b % 2) 1 ≡ b
bit-back true = refl
bit-back false = refl

pub from-to : (n v : ℕ) → from_bits (to_bits n v) ≡ v % 2 ^ n
unfolding to_bits from_bits bit_at
from-to zero v = sym (mod-one v)
from-to (suc n) v =
    let e : suc n ≡ 1 + n = omega arith in
    rw (length-to_bits n v, from-to n v, bit-of_two (v / 2 ^ n % 2) (mod-lt (v / 2 ^ n) (lit< tt)), e, mod-pow-add v 1 n)

pub from-to_fits : (n v : ℕ) → v < 2 ^ n → from_bits (to_bits n v) ≡ v
from-to_fits n v h = from-to n v ∙ mod-eq_of_lt h

pub bit_at_mod : (n j v : ℕ) → bit_at n (v % 2 ^ (j + 1 + n)) ≡ bit_at n v
unfolding bit_at
bit_at_mod n j v = ap (λ (x : ℕ). eqb x 1) (ap (λ (x : ℕ). x % 2) (field v (j + 1) n) ∙ mod-mod-pow (v / 2 ^ n) j 1)

pub to_bits_mod : (n m v : ℕ) → n ≤ m → to_bits n (v % 2 ^ m) ≡ to_bits n v
unfolding to_bits
to_bits_mod zero m v h = refl
to_bits_mod (suc n) m v h =
    let e : m ≡ (m - suc n) + 1 + n = omega arith in
    let b : bit_at n (v % 2 ^ m) ≡ bit_at n v = subst (λ (k : ℕ). bit_at n (v % 2 ^ k) ≡ bit_at n v) (sym e) (bit_at_mod n (m - suc n) v) in
    let t : to_bits n (v % 2 ^ m) ≡ to_bits n v = to_bits_mod n m v (omega arith) in
    cc

pub pow_two : (n : ℕ) → 2 ^ suc n ≡ 2 ^ n + 2 ^ n
pow_two n = omega arith

pub from_lt : (bs : Bits) → from_bits bs < 2 ^ length bs
unfolding from_bits
from_lt [] = lit< tt
from_lt (true ∷ bs) = let h = from_lt bs in rw (pow_two (length bs)) (omega arith)
from_lt (false ∷ bs) = let h = from_lt bs in rw (pow_two (length bs)) (omega arith)

pub to-from : (bs : Bits) → to_bits (length bs) (from_bits bs) ≡ bs
unfolding to_bits from_bits bit_at
to-from [] = refl
to-from (b ∷ bs) =
    let n = length bs in
    let v = bit b * 2 ^ n + from_bits bs in
    let h : bit_at n v ≡ b = ap (λ (x : ℕ). eqb (x % 2) 1) (high (bit b) n (from_lt bs)) ∙ bit-back b in
    let t : to_bits n v ≡ bs = sym (to_bits_mod n n v (omega arith)) ∙ ap (to_bits n) (low (bit b) n (from_lt bs)) ∙ to-from bs in
    cc

-- the powers and the parts of a byte by the names that the code has for them
pub power_some : (n p : ℕ) → p ≡ 2 ^ n → 0 < p
power_some n p e = rw e (pow_pos n)

-- the k bits of a byte above its d low ones
pub chunk_is : (x k d p q : ℕ) → p ≡ 2 ^ d → q ≡ 2 ^ k → x / p % q ≡ x / 2 ^ d % 2 ^ k
chunk_is x k d p q e h = rw (e, h)
