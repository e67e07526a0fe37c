-- The bits from a place on, and what a store does to them.
use mathlib.Core.Path.{◌≡◌, refl, sym, ap, ◌∙◌}
use mathlib.Core.List.{List, [], ◌∷◌, ◌++◌, append_assoc}
use mathlib.Core.Logic.{⊎_elim}
use mathlib.Core.Bool.{Bool, true, false, cond}
use Prim.Native.Nat.{ℕ, zero, suc, ◌+◌, ◌-◌, ◌*◌, ◌/◌, ◌%◌, ◌^◌, ◌≤◌, ◌<◌, min}
use native.Mathlib.Omega.{arith}
use native.Mathlib.Nat.{add-suc, suc-add, add-zero, zero-add, add-mul, mul_assoc, mul_comm, mod-lt, pow-suc, div-add-mod', div-div-eq-div-mul, mul-add-mod_self_right}
use lib.Arith.{digits_div, digits_mod}
use lib.Pow.{pow_pos, pow-add, shl-shr, shr-shr}
use lib.ListN.{length, get_or, set, take, drop, length-append, length-take, length-drop, drop_of_length-le, get_or-append}
use lib.Seq.{drop-cons, get_or-append-add, get_or-take, drop-drop, length-take-le, set-append_left, set_out, set-get_or, take-set-lt, take-set-le, drop-set-lt, sets, sets-eq, drop_at}
use lib.Dec.{eqb, ltb, lit<}
use borrow.Author.Tests.{lt-ltb, le-ltb}
use Rattle.bits.specs.Bits.{Bits, bit, bit_at, to_bits, bits_of, limit, reached, end, from, weight, with_bit, set_bit, put}
use Rattle.bits.proofs.Numbers.{length-to_bits, to_bits_mod, bit-of_two, bit-back}
use Rattle.bits.proofs.Storing.{length-put, below_or}

-- how many bytes have places
abbrev pub most : ℕ
most = 1152921504606846976

pub end_is : (xs : List ℕ) → end xs ≡ min most (length xs) * 8
unfolding end reached
end_is xs = ap (λ (n : ℕ). n * 8) (length-take most xs)

pub end_near : (xs : List ℕ) → length xs < most → length xs * 8 ≡ end xs
end_near xs h = omega (arith, end_is xs)

pub end_far : (xs : List ℕ) → most ≤ length xs → limit ≡ end xs
end_far xs h = omega (arith, end_is xs)

-- eight bits for each byte
pub length-bits_of : (xs : List ℕ) → length (bits_of xs) ≡ length xs * 8
unfolding bits_of
length-bits_of [] = refl
length-bits_of (x ∷ xs) = rw (length-append, length-to_bits, length-bits_of xs) (omega arith)

-- as many bits as there are places up to the end
pub length_from : (xs : List ℕ) (at : ℕ) → length (from xs at) ≡ end xs - at
unfolding from end
length_from xs at = rw (length-drop, length-bits_of)

-- from the end on there are none
pub from_end : (xs : List ℕ) (at : ℕ) → end xs ≤ at → from xs at ≡ []
unfolding from end
from_end xs at h = drop_of_length-le (bits_of (reached xs)) {i = at} (rw (length-bits_of (reached xs)) h)

-- n places further on, n bits fewer
pub from-drop : (xs : List ℕ) (at n : ℕ) → from xs (at + n) ≡ drop n (from xs at)
unfolding from
from-drop xs at n = sym (drop-drop n at (bits_of (reached xs)))

-- a number's bits by their places: the first is the highest
get_d_to_bits : (n k v : ℕ) → k < n → get_or (to_bits n v) k false ≡ bit_at (n - suc k) v
unfolding to_bits
get_d_to_bits zero k v h = absurd (omega arith)
get_d_to_bits (suc n) zero v h = let e : n ≡ suc n - 1 = omega arith in ap (λ (x : ℕ). bit_at x v) e
get_d_to_bits (suc n) (suc k) v h =
    let e : n - suc k ≡ suc n - suc (suc k) = omega arith in
    get_d_to_bits n k v (omega arith) ∙ ap (λ (x : ℕ). bit_at x v) e

-- bit o of byte i
bit-at : (xs : List ℕ) (i o : ℕ) → i < length xs → o < 8 → get_or (bits_of xs) (i * 8 + o) false ≡ bit_at (7 - o) (get_or xs i 0)
unfolding bits_of
bit-at [] i o l h = absurd (omega arith)
bit-at (x ∷ xs) zero o l h =
    let e : 0 * 8 + o ≡ o = omega arith in
    let f : 8 - suc o ≡ 7 - o = omega arith in
    rw e (get_or-append (to_bits 8 x) (bits_of xs) false o (rw (length-to_bits 8 x) h) ∙ get_d_to_bits 8 o x h ∙ ap (λ (k : ℕ). bit_at k x) f)
bit-at (x ∷ xs) (suc i) o l h =
    let e : suc i * 8 + o ≡ length (to_bits 8 x) + (i * 8 + o) = rw (length-to_bits 8 x) (omega arith) in
    rw e (get_or-append-add (to_bits 8 x) (bits_of xs) (i * 8 + o) false ∙ bit-at xs i o (omega arith) h)

-- the same of the bytes that have places
reached-bit : (xs : List ℕ) (i o : ℕ) → i < length (reached xs) → o < 8 → get_or (bits_of (reached xs)) (i * 8 + o) false ≡ bit_at (7 - o) (get_or xs i 0)
unfolding reached
reached-bit xs i o l h =
    let m : i < most = omega (arith, length-take most xs) in
    bit-at (reached xs) i o l h ∙ ap (bit_at (7 - o)) (get_or-take most xs i 0 m)

-- one bit of one byte, and then the others
from_one : (xs : List ℕ) (i o : ℕ) → i < length (reached xs) → o < 8
    → from xs (i * 8 + o) ≡ bit_at (7 - o) (get_or xs i 0) ∷ from xs (suc (i * 8 + o))
unfolding from
from_one xs i o l h =
    rw (← (reached-bit xs i o l h))
    (drop-cons (bits_of (reached xs)) (i * 8 + o) false (omega (arith, length-bits_of (reached xs))))

place : (at : ℕ) → at / 8 * 8 + at % 8 ≡ at
place at = omega arith

pub from-bit : (xs : List ℕ) (at : ℕ) → at < end xs → from xs at ≡ bit_at (7 - at % 8) (get_or xs (at / 8) 0) ∷ from xs (suc at)
unfolding end
from-bit xs at h = rw (place at) at (from_one xs (at / 8) (at % 8) (omega arith) (omega arith))

-- k bits of one byte, above its d low ones, and then the others
chunk : (xs : List ℕ) (i o k d : ℕ) → i < length (reached xs) → o + (k + d) ≡ 8
    → from xs (i * 8 + o) ≡ to_bits k (get_or xs i 0 / 2 ^ d) ++ from xs (i * 8 + o + k)
unfolding to_bits bit_at
chunk xs i o zero d l h = rw add-zero
chunk xs i o (suc k) d l h =
    let e : 7 - o ≡ d + k = omega arith in
    let f : i * 8 + o + suc k ≡ i * 8 + suc o + k = omega arith in
    from_one xs i o l (omega arith)
    ∙ rw (e, shr-shr, f, ← (add-suc (i * 8) o))
    (ap (λ (r : Bits). eqb (get_or xs i 0 / 2 ^ (d + k) % 2) 1 ∷ r) (chunk xs i (suc o) k d l (omega arith)))

pub from_chunk : (xs : List ℕ) (at k d : ℕ) → at < end xs → at % 8 + (k + d) ≡ 8
    → from xs at ≡ to_bits k (get_or xs (at / 8) 0 / 2 ^ d) ++ from xs (at + k)
unfolding end
from_chunk xs at k d h r = rw (place at) at (chunk xs (at / 8) (at % 8) k d (omega arith) r)

-- lists of one length have first elements of one length
length-take-same : (n : ℕ) (xs ys : List ℕ) → length xs ≡ length ys → length (take n xs) ≡ length (take n ys)
length-take-same n xs ys h = length-take n xs ∙ ap (min n) h ∙ sym (length-take n ys)

-- a store keeps the end
pub end-put : (xs : List ℕ) (at : ℕ) (bs : Bits) → end (put xs at bs) ≡ end xs
unfolding end reached
end-put xs at bs = ap (λ (n : ℕ). n * 8) (length-take-same most (put xs at bs) xs (length-put xs at bs))

bit_below : (b : Bool) → bit b < 2
bit_below true = lit< tt
bit_below false = lit< tt

-- The store of one bit in a number, a byte or not: the bit of weight 2 ^ j is the one stored, and the others are kept
module _ (x j : ℕ) (b : Bool) where
  grouped : with_bit x (2 ^ j) (bit b) ≡ (x / (2 ^ j * 2) * 2 + bit b) * 2 ^ j + x % 2 ^ j
  grouped = rw (add-mul (x / (2 ^ j * 2) * 2) (bit b) (2 ^ j), mul_assoc (x / (2 ^ j * 2)) 2 (2 ^ j), mul_comm 2 (2 ^ j))

  with_high : with_bit x (2 ^ j) (bit b) / 2 ^ j ≡ x / (2 ^ j * 2) * 2 + bit b
  with_high = ap (λ (y : ℕ). y / 2 ^ j) grouped ∙ digits_div _ (mod-lt x (pow_pos j))

  with_low : with_bit x (2 ^ j) (bit b) % 2 ^ j ≡ x % 2 ^ j
  with_low = ap (λ (y : ℕ). y % 2 ^ j) grouped ∙ digits_mod _ (mod-lt x (pow_pos j))

  with_above : with_bit x (2 ^ j) (bit b) / 2 ^ suc j ≡ x / 2 ^ suc j
  with_above = rw (pow-suc 2 j, ← (div-div-eq-div-mul (with_bit x (2 ^ j) (bit b)) (2 ^ j) 2), with_high) (digits_div _ (bit_below b))

  with_same : bit_at j (with_bit x (2 ^ j) (bit b)) ≡ b
  unfolding bit_at
  with_same = rw with_high (ap (λ (y : ℕ). eqb y 1) (mul-add-mod_self_right (x / (2 ^ j * 2)) 2 (bit b)) ∙ bit-back b)

  with_other : (k : ℕ) → bit_at (suc j + k) (with_bit x (2 ^ j) (bit b)) ≡ bit_at (suc j + k) x
  unfolding bit_at
  with_other k = rw (← (shr-shr (with_bit x (2 ^ j) (bit b)) (suc j) k), ← (shr-shr x (suc j) k), with_above)

  with_below : to_bits j (with_bit x (2 ^ j) (bit b)) ≡ to_bits j x
  with_below = sym (to_bits_mod j j _ (omega arith)) ∙ ap (to_bits j) with_low ∙ to_bits_mod j j x (omega arith)

  -- of its bits one is made b
  with_bits : (o n : ℕ) → o + suc j ≡ n → to_bits n (with_bit x (2 ^ j) (bit b)) ≡ set (to_bits n x) o b
  unfolding to_bits
  with_bits o zero h = absurd (omega arith)
  with_bits zero (suc n) h = let e : n ≡ j = omega arith in rw (e, with_same, with_below)
  with_bits (suc o) (suc n) h =
      let e : n ≡ suc j + (n - suc j) = omega arith in
      let c : bit_at n (with_bit x (2 ^ j) (bit b)) ≡ bit_at n x = rw e (with_other (n - suc j)) in
      rw (c, with_bits o n (omega arith))

-- what bit o of a byte weighs
pub weight_pow : (o j : ℕ) → o + suc j ≡ 8 → weight o ≡ 2 ^ j
weight_pow o j h =
    let e : 7 ≡ j + o = omega arith in
    ap (λ (n : ℕ). 2 ^ n / 2 ^ o) e ∙ ap (λ (y : ℕ). y / 2 ^ o) (pow-add 2 j o) ∙ shl-shr (2 ^ j) o

set_append_add : (us vs : Bits) (n : ℕ) (b : Bool) → set (us ++ vs) (length us + n) b ≡ us ++ set vs n b
set_append_add [] vs n b = rw zero-add
set_append_add (u ∷ us) vs n b = rw (suc-add, set_append_add us vs n b)

-- bit o of byte i made b: of the bits of all bytes one is made b
set_byte : (xs : List ℕ) (i o : ℕ) (b : Bool) → o < 8 → bits_of (set xs i (with_bit (get_or xs i 0) (weight o) (bit b))) ≡ set (bits_of xs) (i * 8 + o) b
unfolding bits_of
set_byte [] i o b h = refl
set_byte (x ∷ xs) zero o b h =
    let e : 0 * 8 + o ≡ o = omega arith in
    rw (e, weight_pow o (7 - o) (omega arith), with_bits x (7 - o) b o 8 (omega arith))
    (sym (set-append_left (to_bits 8 x) (bits_of xs) o b (rw (length-to_bits 8 x) h)))
set_byte (x ∷ xs) (suc i) o b h =
    let e : suc i * 8 + o ≡ length (to_bits 8 x) + (i * 8 + o) = rw (length-to_bits 8 x) (omega arith) in
    rw (e, set_append_add (to_bits 8 x) (bits_of xs) (i * 8 + o) b, set_byte xs i o b h)

-- the same of the first n bytes
set_first : (n : ℕ) (xs : List ℕ) (at : ℕ) (b : Bool) → at < n * 8
    → bits_of (take n (set xs (at / 8) (with_bit (get_or xs (at / 8) 0) (weight (at % 8)) (bit b)))) ≡ set (bits_of (take n xs)) at b
set_first n xs at b h =
    let l : at / 8 < n = omega arith in
    rw (take-set-lt n xs (at / 8) (with_bit (get_or xs (at / 8) 0) (weight (at % 8)) (bit b)) l, ← (get_or-take n xs (at / 8) 0 l))
    (rw (place at) at (set_byte (take n xs) (at / 8) (at % 8) b (omega arith)))

-- The store of one bit: the bit at the place is b, and every other is kept. Where there is no such place nothing changes.
pub set-bits : (xs : List ℕ) (at : ℕ) (b : Bool) → from (set_bit xs at b) 0 ≡ set (from xs 0) at b
unfolding from reached set_bit
set-bits xs at b = ⊎_elim near far (below_or at limit)
  where
    near : at < limit → from (set_bit xs at b) 0 ≡ set (from xs 0) at b
    near h = rw (lt-ltb at limit h) (set_first most xs at b h)

    far : limit ≤ at → from (set_bit xs at b) 0 ≡ set (from xs 0) at b
    far h = rw (le-ltb at limit h) (sym (set_out (bits_of (reached xs)) at b (omega (arith, length-bits_of (reached xs), length-take most xs))))

-- The store of a run: its bits one by one
pub put_sets : (xs : List ℕ) (at : ℕ) (bs : Bits) → from (put xs at bs) 0 ≡ sets (from xs 0) at bs
unfolding put
put_sets xs at [] = refl
put_sets xs at (b ∷ bs) = put_sets (set_bit xs at b) (suc at) bs ∙ ap (λ (l : Bits). sets l (suc at) bs) (set-bits xs at b)

-- exactly the bits bs stand at the place, and every other bit is kept
pub put-bits : (xs : List ℕ) (at : ℕ) (bs : Bits) → at + length bs ≤ end xs
    → from (put xs at bs) 0 ≡ take at (from xs 0) ++ bs ++ drop (at + length bs) (from xs 0)
put-bits xs at bs h = put_sets xs at bs ∙ sets-eq bs (from xs 0) at (omega (arith, length_from xs 0))

from_start : (xs : List ℕ) (at : ℕ) → from xs at ≡ drop at (from xs 0)
unfolding from
from_start xs at = refl

-- what was stored reads back
pub put_front : (xs : List ℕ) (at : ℕ) (bs : Bits) → at + length bs ≤ end xs → from (put xs at bs) at ≡ bs ++ from xs (at + length bs)
put_front xs at bs h =
    from_start (put xs at bs) at
    ∙ ap (drop at) (put-bits xs at bs h ∙ append_assoc (take at (from xs 0)) bs (drop (at + length bs) (from xs 0)))
    ∙ drop_at (take at (from xs 0)) (bs ++ drop (at + length bs) (from xs 0)) at (length-take-le at (from xs 0) (omega (arith, length_from xs 0)))
    ∙ ap (λ (l : Bits). bs ++ l) (sym (from_start xs (at + length bs)))

drop_sets : (n : ℕ) (l : Bits) (i : ℕ) (bs : Bits) → i + length bs ≤ n → drop n (sets l i bs) ≡ drop n l
drop_sets n l i [] h = refl
drop_sets n l i (b ∷ bs) h = drop_sets n (set l i b) (suc i) bs (omega arith) ∙ drop-set-lt n l i b (omega arith)

take_sets : (n : ℕ) (l : Bits) (i : ℕ) (bs : Bits) → n ≤ i → take n (sets l i bs) ≡ take n l
take_sets n l i [] h = refl
take_sets n l i (b ∷ bs) h = take_sets n (set l i b) (suc i) bs (omega arith) ∙ take-set-le n l i b h

-- what is behind the run is kept
pub put-behind : (xs : List ℕ) (at : ℕ) (bs : Bits) → from (put xs at bs) (at + length bs) ≡ from xs (at + length bs)
put-behind xs at bs =
    from_start (put xs at bs) (at + length bs)
    ∙ ap (drop (at + length bs)) (put_sets xs at bs)
    ∙ drop_sets (at + length bs) (from xs 0) at bs (omega arith)
    ∙ sym (from_start xs (at + length bs))

-- and so is what is before it
pub put_before : (xs : List ℕ) (at : ℕ) (bs : Bits) → take at (from (put xs at bs) 0) ≡ take at (from xs 0)
put_before xs at bs = ap (take at) (put_sets xs at bs) ∙ take_sets at (from xs 0) at bs (omega arith)

-- a number with one of its bits made what it is
with_own : (x j : ℕ) → with_bit x (2 ^ j) (bit (bit_at j x)) ≡ x
unfolding bit_at
with_own x j =
    grouped x j (bit_at j x)
    ∙ rw (bit-of_two (x / 2 ^ j % 2) (mod-lt (x / 2 ^ j) (lit< tt)), ← (div-div-eq-div-mul x (2 ^ j) 2), div-add-mod' (x / 2 ^ j) 2) (div-add-mod' x (2 ^ j))

set_own : (xs : List ℕ) (at : ℕ) → set_bit xs at (bit_at (7 - at % 8) (get_or xs (at / 8) 0)) ≡ xs
unfolding set_bit
set_own xs at = go (ltb at limit)
  where
    w : weight (at % 8) ≡ 2 ^ (7 - at % 8)
    w = weight_pow (at % 8) (7 - at % 8) (omega arith)

    go : (t : Bool) → cond t (set xs (at / 8) (with_bit (get_or xs (at / 8) 0) (weight (at % 8)) (bit (bit_at (7 - at % 8) (get_or xs (at / 8) 0))))) xs ≡ xs
    go true = rw (w, with_own (get_or xs (at / 8) 0) (7 - at % 8)) (set-get_or xs (at / 8) 0)
    go false = refl

-- to store what stands there changes nothing
pub put_same : (xs : List ℕ) (at n : ℕ) → put xs at (take n (from xs at)) ≡ xs
unfolding put
put_same xs at zero = refl
put_same xs at (suc n) =
    ⊎_elim
    (λ (h : at < end xs). rw (from-bit xs at h) (ap (λ (ys : List ℕ). put ys (suc at) (take n (from xs (suc at)))) (set_own xs at) ∙ put_same xs (suc at) n))
    (λ (h : end xs ≤ at). rw (from_end xs at h))
    (below_or at (end xs))
