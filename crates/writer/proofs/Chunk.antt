-- Bits stored: one in its byte, several one by one, and those of a whole byte.
use mathlib.Core.Path.{◌≡◌, refl, sym, ap, ◌∙◌}
use mathlib.Core.List.{List, [], ◌∷◌, ◌++◌}
use mathlib.Core.Logic.{◌⊎◌, ⊎_elim}
use mathlib.Core.Bool.{Bool, true, false}
use Prim.Native.Nat.{ℕ, zero, suc, ◌+◌, ◌-◌, ◌*◌, ◌/◌, ◌%◌, ◌^◌, ◌≤◌, ◌<◌}
use native.Mathlib.Omega.{arith}
use native.Mathlib.Nat.{add-suc, mul_comm, mod-lt, div-eq_of_lt, lt_of_lt_of_le}
use lib.Arith.{digits_lt}
use lib.Pow.{pow_pos, pow-add, shr_lt, pow_mono}
use lib.ListN.{length, get_or, set, take}
use lib.Dec.{eqb}
use lib.Seq.{set-set, set-get_or, take_at}
use borrow.Author.Tests.{lt-ltb}
use mir.Val.{bool_byte}
use Rattle.std.specs.Prelude.{Option, None, Some}
use Rattle.std.specs.Option.{SomeIff, unwrap_or}
use Rattle.bits.specs.Bits.{Bits, bit, bit_at, to_bits, from_bits, put, set_bit, with_bit, limit, from, end}
use Rattle.writer.specs.Blend.{blend}
use Rattle.bits.proofs.Numbers.{length-to_bits, from-to_fits}
use Rattle.bits.proofs.Storing.{below_or, put_far, put-none}
use Rattle.bits.proofs.Places.{weight_pow, end_is, end-put, put_front, from_chunk}
use Rattle.bits.proofs.Pieces.{put_out}

-- one bit of a byte, by its weight
bit_blend : (x d : ℕ) (b : Bool) → with_bit x (2 ^ d) (bit b) ≡ blend x 1 d (bool_byte b)
unfolding blend
bit_blend x d true = rw (pow-add 2 1 d, mul_comm 2 (2 ^ d)) refl
bit_blend x d false = rw (pow-add 2 1 d, mul_comm 2 (2 ^ d)) refl

set-blend : (xs : List ℕ) (at : ℕ) (b : Bool) → at < limit → set_bit xs at b ≡ set xs (at / 8) (blend (get_or xs (at / 8) 0) 1 (7 - at % 8) (bool_byte b))
unfolding set_bit
set-blend xs at b h =
    rw (lt-ltb at limit h, weight_pow (at % 8) (7 - at % 8) (omega arith)) (ap (set xs (at / 8)) (bit_blend (get_or xs (at / 8) 0) (7 - at % 8) b))

pub bit-stored : (xs : List ℕ) (at : ℕ) (b : Bool) {x : ℕ} → at < limit → x ≡ blend (get_or xs (at / 8) 0) 1 (7 - at % 8) (bool_byte b) → set xs (at / 8) x ≡ set_bit xs at b
bit-stored xs at b h e = ap (set xs (at / 8)) e ∙ sym (set-blend xs at b h)

-- one bit of n, where m bits are left behind it
pub bit_turn : (ys : List ℕ) (v m : ℕ) {zs : List ℕ} {place q k n u : ℕ} → q ≡ place → k ≡ m → u ≡ v / 2 ^ k → zs ≡ set_bit ys q (eqb (u % 2) 1) → {p : ℕ} → p ≡ place + 1 → n ≡ m + 1
    → put zs p (to_bits m v) ≡ put ys place (to_bits n v)
unfolding put to_bits bit_at
bit_turn ys v m {place = place} a b c d e f =
    let s : m + 1 ≡ suc m = omega arith in
    let t : place + 1 ≡ suc place = omega arith in
    rw (d, e, f, a, c, b, s, t) refl

pub bit_far : (xs : List ℕ) (at : ℕ) (b : Bool) → limit ≤ at → xs ≡ set_bit xs at b
unfolding put
bit_far xs at b h = sym (put_far xs at (b ∷ []) h)

-- nothing is stored past the end
pub bit_past : (xs : List ℕ) (at : ℕ) (b : Bool) → length xs ≤ at / 8 → xs ≡ set_bit xs at b
unfolding put
bit_past xs at b h = sym (put_out xs at (b ∷ []) (omega arith))

pub stores_past : (xs : List ℕ) (at n v : ℕ) → length xs ≤ at / 8 → xs ≡ put xs at (to_bits n v)
stores_past xs at n v h = sym (put_out xs at (to_bits n v) (omega arith))

-- what is left is stored nowhere: there is nothing, or no place
pub none_left : (ys : List ℕ) (place left v : ℕ) → (limit ≤ place) ⊎ (left ≤ 0) → put ys place (to_bits left v) ≡ ys
none_left ys place left v = ⊎_elim (put_far ys place (to_bits left v)) (put-none ys place left v)

-- a byte stays a byte
pub blend-below : (x k d u : ℕ) → k + d ≤ 8 → x < 256 → blend x k d u < 256
unfolding blend
blend-below x k d u h l =
    let j : 8 ≡ 8 - (k + d) + (k + d) = omega arith in
    let p : 256 ≡ 2 ^ (8 - (k + d) + (k + d)) = ap (λ (j : ℕ). 2 ^ j) j in
    let e : 256 ≡ 2 ^ (8 - (k + d)) * 2 ^ (k + d) = p ∙ pow-add 2 (8 - (k + d)) (k + d) in
    let q : x / 2 ^ (k + d) < 2 ^ (8 - (k + d)) = shr_lt (8 - (k + d)) (k + d) (omega arith) in
    let f : u % 2 ^ k * 2 ^ d + x % 2 ^ d < 2 ^ k * 2 ^ d = digits_lt (mod-lt u (pow_pos k)) (mod-lt x (pow_pos d)) in
    let g : x / 2 ^ (k + d) * 2 ^ (k + d) + (u % 2 ^ k * 2 ^ d + x % 2 ^ d) < 2 ^ (8 - (k + d)) * 2 ^ (k + d) = digits_lt q (rw pow-add f) in
    omega arith

pub blend_byte_fits : (x k d u : ℕ) {r : ℕ} → k + d ≤ 8 → x < 2 ^ 8 → r ≡ blend x k d u → r < 2 ^ 8
blend_byte_fits x k d u h l e = rw e (blend-below x k d u h l)

-- a number shifted, where nothing is above its width
pub shifted : (v k : ℕ) (r : Option ℕ) → v < 2 ^ 32 → SomeIff r (k < 32) (v / 2 ^ k) → unwrap_or r 0 ≡ v / 2 ^ k
shifted v k None h n = sym (div-eq_of_lt (lt_of_lt_of_le h (pow_mono {i = 32} (⊎_elim (λ l. absurd (n l)) (λ l. l) (below_or k 32)))))
shifted v k (Some x) h e = e.1

-- bytes stay bytes
abbrev AreBytes : List ℕ → Type 0
AreBytes xs = (k : ℕ) → get_or xs k 0 < 256

pub set_bytes : (xs : List ℕ) (i v : ℕ) → AreBytes xs → v < 256 → AreBytes (set xs i v)
set_bytes [] i v X h k = X k
set_bytes (x ∷ xs) zero v X h zero = h
set_bytes (x ∷ xs) zero v X h (suc k) = X (suc k)
set_bytes (x ∷ xs) (suc i) v X h zero = X 0
set_bytes (x ∷ xs) (suc i) v X h (suc k) = set_bytes xs i v (λ j. X (suc j)) h k

kept : (xs : List ℕ) (at : ℕ) (bs : Bits) → AreBytes xs → AreBytes (put xs at bs)
unfolding put
kept xs at [] X = X
kept xs at (b ∷ bs) X =
    kept (set_bit xs at b) (suc at) bs
    (⊎_elim
    (λ h. rw (set-blend xs at b h) (set_bytes xs (at / 8) _ X (blend-below (get_or xs (at / 8) 0) 1 (7 - at % 8) (bool_byte b) (omega arith) (X (at / 8)))))
    (λ h. rw (← (bit_far xs at b h)) X)
    (below_or at limit))

-- bits stored within one byte leave the others
put_in : (xs : List ℕ) (i o : ℕ) (bs : Bits) → i * 8 + 8 ≤ limit → o + length bs ≤ 8 → put xs (i * 8 + o) bs ≡ set xs i (get_or (put xs (i * 8 + o) bs) i 0)
unfolding put
put_in xs i o [] l h = sym (set-get_or xs i 0)
put_in xs i o (b ∷ bs) l h =
    let j : (i * 8 + o) / 8 ≡ i = omega arith in
    let v = blend (get_or xs i 0) 1 (7 - (i * 8 + o) % 8) (bool_byte b) in
    let zs = set_bit xs (i * 8 + o) b in
    let s : zs ≡ set xs i v = rw j at (set-blend xs (i * 8 + o) b (omega arith)) in
    let r : put zs (suc (i * 8 + o)) bs ≡ set zs i (get_or (put zs (suc (i * 8 + o)) bs) i 0) = rw (add-suc (i * 8) o) at (put_in zs i (suc o) bs l (omega arith)) in
    let y = get_or (put zs (suc (i * 8 + o)) bs) i 0 in
    r ∙ ap (λ (l : List ℕ). set l i y) s ∙ set-set xs i v y

-- a whole byte stored
pub put_byte : (xs : List ℕ) (i e : ℕ) → i * 8 + 8 ≤ end xs → AreBytes xs → e < 256 → put xs (i * 8) (to_bits 8 e) ≡ set xs i e
put_byte xs i e l X h =
    let ys = put xs (i * 8) (to_bits 8 e) in
    let y = get_or ys i 0 in
    let a : i * 8 / 8 ≡ i = omega arith in
    let o : y / 2 ^ 0 ≡ y = omega arith in
    let z : i * 8 + 0 ≡ i * 8 = omega arith in
    let n : length (to_bits 8 e) ≡ 8 = length-to_bits 8 e in
    let m : i * 8 + 8 ≤ limit = omega (arith, end_is xs) in
    let p : ys ≡ set xs i y = rw z at (put_in xs i 0 (to_bits 8 e) m (omega arith)) in
    let q : from ys (i * 8) ≡ to_bits 8 e ++ from xs (i * 8 + length (to_bits 8 e)) = put_front xs (i * 8) (to_bits 8 e) (omega arith) in
    let r : from ys (i * 8) ≡ to_bits 8 y ++ from ys (i * 8 + 8) = rw (a, o) at (from_chunk ys (i * 8) 8 0 (omega (arith, end-put xs (i * 8) (to_bits 8 e))) (omega arith)) in
    let t : to_bits 8 y ≡ to_bits 8 e =
    sym (take_at (to_bits 8 y) (from ys (i * 8 + 8)) 8 (length-to_bits 8 y)) ∙ ap (take 8) (sym r ∙ q) ∙ take_at (to_bits 8 e) (from xs (i * 8 + length (to_bits 8 e))) 8 n in
    p ∙ ap (set xs i) (sym (from-to_fits 8 y (kept xs (i * 8) (to_bits 8 e) X i)) ∙ ap from_bits t ∙ from-to_fits 8 e h)
