-- A store of bits, in the first of some bytes and in the last of them.
use mathlib.Core.Path.{◌≡◌, refl, sym, ap, ◌∙◌}
use mathlib.Core.List.{List, [], ◌∷◌}
use mathlib.Core.Logic.{⊎_elim}
use mathlib.Core.Bool.{Bool, true, false, cond}
use Prim.Native.Nat.{ℕ, suc, ◌+◌, ◌*◌, ◌/◌, ◌%◌, ◌≤◌, ◌<◌}
use native.Mathlib.Omega.{arith}
use native.Mathlib.Nat.{add-suc}
use lib.ListN.{length, get_or, set, take, drop, length-take}
use lib.Seq.{take-set-lt, take-set-le, drop-set-add, get_or-take, get_or-drop, set_out}
use lib.Dec.{ltb}
use borrow.Author.Tests.{lt-ltb}
use Rattle.bits.specs.Bits.{Bits, bit, limit, weight, with_bit, set_bit, put}
use Rattle.bits.proofs.Storing.{below_or}

-- past the end nothing is stored
set_bit_out : (xs : List ℕ) (at : ℕ) (b : Bool) → length xs * 8 ≤ at → set_bit xs at b ≡ xs
unfolding set_bit
set_bit_out xs at b h = go (ltb at limit)
  where
    go : (t : Bool) → cond t (set xs (at / 8) (with_bit (get_or xs (at / 8) 0) (weight (at % 8)) (bit b))) xs ≡ xs
    go true = set_out xs (at / 8) _ (omega arith)
    go false = refl

pub put_out : (xs : List ℕ) (at : ℕ) (bs : Bits) → length xs * 8 ≤ at → put xs at bs ≡ xs
unfolding put
put_out xs at [] h = refl
put_out xs at (b ∷ bs) h = rw (set_bit_out xs at b h) (put_out xs (suc at) bs (omega arith))

-- the first n bytes, with what is stored in them
take-set-bit : (n : ℕ) (xs : List ℕ) (at : ℕ) (b : Bool) → take n (set_bit xs at b) ≡ set_bit (take n xs) at b
unfolding set_bit
take-set-bit n xs at b = go (ltb at limit)
  where
    near : at / 8 < n → take n (set xs (at / 8) (with_bit (get_or xs (at / 8) 0) (weight (at % 8)) (bit b))) ≡ set (take n xs) (at / 8) (with_bit (get_or (take n xs) (at / 8) 0) (weight (at % 8)) (bit b))
    near h = rw (get_or-take n xs (at / 8) 0 h) (take-set-lt n xs (at / 8) _ h)

    far : n ≤ at / 8 → take n (set xs (at / 8) (with_bit (get_or xs (at / 8) 0) (weight (at % 8)) (bit b))) ≡ set (take n xs) (at / 8) (with_bit (get_or (take n xs) (at / 8) 0) (weight (at % 8)) (bit b))
    far h = take-set-le n xs (at / 8) _ h ∙ sym (set_out (take n xs) (at / 8) _ (omega (arith, length-take n xs)))

    go : (t : Bool) → take n (cond t (set xs (at / 8) (with_bit (get_or xs (at / 8) 0) (weight (at % 8)) (bit b))) xs) ≡ cond t (set (take n xs) (at / 8) (with_bit (get_or (take n xs) (at / 8) 0) (weight (at % 8)) (bit b))) (take n xs)
    go true = ⊎_elim near far (below_or (at / 8) n)
    go false = refl

pub take_put : (n : ℕ) (xs : List ℕ) (at : ℕ) (bs : Bits) → take n (put xs at bs) ≡ put (take n xs) at bs
unfolding put
take_put n xs at [] = refl
take_put n xs at (b ∷ bs) = take_put n (set_bit xs at b) (suc at) bs ∙ ap (λ (ys : List ℕ). put ys (suc at) bs) (take-set-bit n xs at b)

-- and the bytes from the i-th on
drop-set-bit : (i : ℕ) (xs : List ℕ) (at : ℕ) (b : Bool) → i * 8 + at < limit → drop i (set_bit xs (i * 8 + at) b) ≡ set_bit (drop i xs) at b
unfolding set_bit
drop-set-bit i xs at b h =
    let j : (i * 8 + at) / 8 ≡ i + at / 8 = omega arith in
    let o : (i * 8 + at) % 8 ≡ at % 8 = omega arith in
    rw (lt-ltb (i * 8 + at) limit h, lt-ltb at limit (omega arith), j, o, get_or-drop i xs (at / 8) 0) (drop-set-add i xs (at / 8) _)

pub drop-put : (i : ℕ) (xs : List ℕ) (at : ℕ) (bs : Bits) → i * 8 + at + length bs ≤ limit → drop i (put xs (i * 8 + at) bs) ≡ put (drop i xs) at bs
unfolding put
drop-put i xs at [] h = refl
drop-put i xs at (b ∷ bs) h = rw (← (add-suc (i * 8) at)) (drop-put i (set_bit xs (i * 8 + at) b) (suc at) bs (omega arith) ∙ ap (λ (ys : List ℕ). put ys (suc at) bs) (drop-set-bit i xs at b (omega arith)))
