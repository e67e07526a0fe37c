-- The least width that holds a number: it holds the number, and each width that does is no smaller.
use mathlib.Core.Path.{◌≡◌, refl}
use mathlib.Core.Bool.{Bool, true, false, cond}
use mathlib.Core.Logic.{⊎_elim}
use Prim.Native.Nat.{ℕ, zero, suc, ◌+◌, ◌-◌, ◌*◌, ◌^◌, ◌<◌, ◌≤◌}
use native.Mathlib.Omega.{arith}
use lib.Count.{count_leading_zeros, leading_of_zero, leading_top}
use lib.Dec.{ltb, leb}
use lib.IntN.{ℤ, pos, negsuc}
use lib.Pow.{pow_mono}
use borrow.Author.Tests.{ltb-true, ltb-false, leb-true, lt-ltb, le-leb}
use Rattle.bits.specs.Widths.{width_up_to, bit_length, signed_length}
use Rattle.bits.specs.Codes.{su_out}
use Rattle.bits.proofs.Storing.{below_or}

-- fewer bits hold less
fewer : {v w n : ℕ} → 2 ^ v ≤ n → n < 2 ^ w → v < w
fewer {v} {w} {n} l u = ⊎_elim (λ h. h) (λ h. let p : 2 ^ w ≤ 2 ^ v = pow_mono h in absurd (omega arith)) (below_or v w)

pub up_to_most : (k n : ℕ) → width_up_to k n ≤ k
unfolding width_up_to
up_to_most zero n = omega arith
up_to_most (suc k) n = go (ltb n (2 ^ k)) (up_to_most k n)
  where
    go : (t : Bool) → width_up_to k n ≤ k → cond t (width_up_to k n) (suc k) ≤ suc k
    go true h = omega arith
    go false h = omega arith

up_to_holds : (k n : ℕ) → n < 2 ^ k → n < 2 ^ width_up_to k n
unfolding width_up_to
up_to_holds zero n h = h
up_to_holds (suc k) n h = go (ltb n (2 ^ k)) refl (up_to_holds k n)
  where
    go : (t : Bool) → ltb n (2 ^ k) ≡ t → (n < 2 ^ k → n < 2 ^ width_up_to k n) → n < 2 ^ cond t (width_up_to k n) (suc k)
    go true e less = less (ltb-true n (2 ^ k) e)
    go false e less = h

up_to_least : (k n w : ℕ) → n < 2 ^ w → width_up_to k n ≤ w
unfolding width_up_to
up_to_least zero n w h = omega arith
up_to_least (suc k) n w h = go (ltb n (2 ^ k)) refl (up_to_least k n w h)
  where
    go : (t : Bool) → ltb n (2 ^ k) ≡ t → width_up_to k n ≤ w → cond t (width_up_to k n) (suc k) ≤ w
    go true e less = less
    go false e less = fewer (ltb-false n (2 ^ k) e) h

own : (n : ℕ) → n < 2 ^ n
own zero = omega arith
own (suc n) = omega (arith, own n)

-- of a number without a sign: what f(n) holds
pub bit_holds : (n : ℕ) → n < 2 ^ bit_length n
unfolding bit_length
bit_holds n = up_to_holds n n (own n)

pub bit-least : (n w : ℕ) → n < 2 ^ w → bit_length n ≤ w
unfolding bit_length
bit-least n w h = up_to_least n n w h

-- and what does not hold it
pub bit_more : (n w : ℕ) → 2 ^ w ≤ n → w < bit_length n
bit_more n w h = fewer h (bit_holds n)

pub bit_is : (n w : ℕ) → 2 ^ w ≤ n → n < 2 ^ suc w → bit_length n ≡ suc w
bit_is n w l u = omega (arith, bit_more n w l, bit-least n (suc w) u)

-- a width that is looked for up to one that holds the number
pub up_to_is : (k n : ℕ) → n < 2 ^ k → width_up_to k n ≡ bit_length n
up_to_is k n h = omega (arith, up_to_least k n (bit_length n) (bit_holds n), bit-least n (width_up_to k n) (up_to_holds k n h))

-- A number of 32 bits has leading zeros, its highest one and the bits below that: its bit length is all but the zeros.
pub bit_length_lem : (n : ℕ) → n < 2 ^ 32 → 32 - count_leading_zeros 32 n ≡ bit_length n
bit_length_lem n few = ⊎_elim none some (below_or 0 n)
  where
    some : n ≤ 0 → 32 - count_leading_zeros 32 n ≡ bit_length n
    some h =
        let e : n ≡ 0 = omega arith in
        rw e (omega (arith, leading_of_zero 32, bit-least 0 0 (omega arith)))

    none : 0 < n → 32 - count_leading_zeros 32 n ≡ bit_length n
    none h = let t = leading_top 32 n h few in omega (arith, t.1, bit_is n t.0 t.2 t.3)

-- of a number with a sign: what su(n) holds, whose code is then below 2^n
pub signed_holds : (z : ℤ) → su_out (signed_length z) z < 2 ^ signed_length z
unfolding signed_length
signed_holds (pos m) = let h = bit_holds (m * 2) in rw (lt-ltb (m * 2) (2 ^ bit_length (m * 2)) h) (omega arith)
signed_holds (negsuc m) = let h = bit_holds (m * 2 + 1) in rw (le-leb (suc m * 2) (2 ^ bit_length (m * 2 + 1)) (omega arith)) (omega arith)

pub signed-least : (z : ℤ) (n : ℕ) → su_out n z < 2 ^ n → signed_length z ≤ n
unfolding signed_length
signed-least (pos m) n h = go (ltb (m * 2) (2 ^ n)) refl h
  where
    go : (t : Bool) → ltb (m * 2) (2 ^ n) ≡ t → cond t m (2 ^ n) < 2 ^ n → bit_length (m * 2) ≤ n
    go true e h = bit-least (m * 2) n (ltb-true (m * 2) (2 ^ n) e)
    go false e h = absurd (omega arith)
signed-least (negsuc m) n h = go (leb (suc m * 2) (2 ^ n)) refl h
  where
    go : (t : Bool) → leb (suc m * 2) (2 ^ n) ≡ t → cond t (2 ^ n - suc m) (2 ^ n) < 2 ^ n → bit_length (m * 2 + 1) ≤ n
    go true e h = bit-least (m * 2 + 1) n (omega (arith, leb-true (suc m * 2) (2 ^ n) e))
    go false e h = absurd (omega arith)
