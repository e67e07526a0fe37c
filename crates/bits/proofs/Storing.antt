-- A store of bits, one behind another; what it keeps.
use mathlib.Core.Path.{◌≡◌, refl, sym, ◌∙◌}
use mathlib.Core.List.{List, [], ◌∷◌, ◌++◌}
use mathlib.Core.Logic.{◌⊎◌, inl, inr, ⊎_elim}
use mathlib.Core.Bool.{Bool, true, false, cond}
use Prim.Native.Nat.{ℕ, zero, suc, ◌+◌, ◌*◌, ◌/◌, ◌%◌, ◌^◌, ◌≤◌, ◌<◌}
use native.Mathlib.Omega.{arith}
use native.Mathlib.Nat.{add-suc, suc-add, add-zero, div-eq_of_lt, lt_of_lt_of_le, le-div_iff_mul-le, one-mul}
use lib.Pow.{pow_mono, pow_pos}
use lib.ListN.{length, get_or, set, drop, length-set}
use lib.Seq.{drop-set-lt}
use lib.Dec.{ltb, eqb}
use borrow.Author.Tests.{lt-ltb, le-ltb, ltb-true, ltb-false, ne_eqb}
use Rattle.bits.specs.Bits.{Bits, bit, to_bits, limit, weight, with_bit, set_bit, put}

pub length_pick : (b : Bool) (xs ys : List ℕ) → length xs ≡ length ys → length (cond b xs ys) ≡ length ys
length_pick true xs ys h = h
length_pick false xs ys h = refl

pub length-set_bit : (xs : List ℕ) (at : ℕ) (b : Bool) → length (set_bit xs at b) ≡ length xs
unfolding set_bit
length-set_bit xs at b = length_pick (ltb at limit) (set xs (at / 8) (with_bit (get_or xs (at / 8) 0) (weight (at % 8)) (bit b))) xs (length-set xs _ _)

pub length-put : (xs : List ℕ) (at : ℕ) (bs : Bits) → length (put xs at bs) ≡ length xs
unfolding put
length-put xs at [] = refl
length-put xs at (b ∷ bs) = length-put (set_bit xs at b) (suc at) bs ∙ length-set_bit xs at b

pub put_append : (xs : List ℕ) (at : ℕ) (us vs : Bits) → put xs at (us ++ vs) ≡ put (put xs at us) (at + length us) vs
unfolding put
put_append xs at [] vs = rw add-zero
put_append xs at (u ∷ us) vs = rw (add-suc, ← suc-add) (put_append (set_bit xs at u) (suc at) us vs)

-- nothing is stored from the limit on
pub put_far : (xs : List ℕ) (at : ℕ) (bs : Bits) → limit ≤ at → put xs at bs ≡ xs
unfolding set_bit put
put_far xs at [] h = refl
put_far xs at (b ∷ bs) h = rw (le-ltb at limit h) (put_far xs (suc at) bs (omega arith))

pub put-none : (xs : List ℕ) (at n v : ℕ) → n ≤ 0 → put xs at (to_bits n v) ≡ xs
unfolding put to_bits
put-none xs at zero v h = refl
put-none xs at (suc n) v h = absurd (omega arith)

-- a number is below another or not
pub below_or : (a b : ℕ) → (a < b) ⊎ (b ≤ a)
below_or a b = go (ltb a b) refl
  where
    go : (t : Bool) → ltb a b ≡ t → (a < b) ⊎ (b ≤ a)
    go true e = inl (ltb-true a b e)
    go false e = inr (ltb-false a b e)

-- what is left of v above its n low bits is 0 exactly where v is below 2 ^ n
pub fits_test : (v n : ℕ) → eqb (v / 2 ^ n) 0 ≡ ltb v (2 ^ n)
fits_test v n = ⊎_elim small large (below_or v (2 ^ n))
  where
    small : v < 2 ^ n → eqb (v / 2 ^ n) 0 ≡ ltb v (2 ^ n)
    small h = rw (div-eq_of_lt, lt-ltb v (2 ^ n) h)

    large : 2 ^ n ≤ v → eqb (v / 2 ^ n) 0 ≡ ltb v (2 ^ n)
    large h =
        let p : 1 ≤ v / 2 ^ n = (le-div_iff_mul-le (pow_pos n)).1 (rw one-mul h) in
        ne_eqb (v / 2 ^ n) 0 (λ e. omega arith) ∙ sym (le-ltb v (2 ^ n) h)

-- a number of 32 bits is below any power from there on
pub fits_all : (v n : ℕ) → v < 2 ^ 32 → 32 ≤ n → true ≡ ltb v (2 ^ n)
fits_all v n h l = sym (lt-ltb v (2 ^ n) (lt_of_lt_of_le h (pow_mono l)))

-- only the bytes that hold a place of the run change
set_bit_far : (xs : List ℕ) (at : ℕ) (b : Bool) (i : ℕ) → at < 8 * i → drop i (set_bit xs at b) ≡ drop i xs
unfolding set_bit
set_bit_far xs at b i h = go (ltb at limit)
  where
    go : (t : Bool) → drop i (cond t (set xs (at / 8) (with_bit (get_or xs (at / 8) 0) (weight (at % 8)) (bit b))) xs) ≡ drop i xs
    go true = drop-set-lt i xs (at / 8) _ (omega arith)
    go false = refl

pub put_beyond : (xs : List ℕ) (at : ℕ) (bs : Bits) (i : ℕ) → at + length bs ≤ 8 * i → drop i (put xs at bs) ≡ drop i xs
unfolding put
put_beyond xs at [] i h = refl
put_beyond xs at (b ∷ bs) i h = put_beyond (set_bit xs at b) (suc at) bs i (omega arith) ∙ set_bit_far xs at b i (omega arith)
