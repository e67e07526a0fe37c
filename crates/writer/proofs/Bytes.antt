-- Bytes, and a number's, the highest first: the bits that they are.
use mathlib.Core.Path.{◌≡◌, refl, sym, ap, ◌∙◌}
use mathlib.Core.List.{List, [], ◌∷◌, ◌++◌, append_assoc}
use Prim.Native.Nat.{ℕ, zero, suc, ◌+◌, ◌-◌, ◌*◌, ◌/◌, ◌%◌, ◌^◌, ◌≤◌, ◌<◌}
use native.Mathlib.Omega.{arith}
use native.Mathlib.Nat.{pow-suc, mod-lt}
use lib.ListN.{length, get_or, take, drop, length-take, length-drop}
use lib.Pow.{pow-add}
use lib.Dec.{lit<}
use lib.Seq.{drop-cons, get_or-drop}
use Rattle.std.specs.Int.{w64, byte_at, bytes_high_first, from_be_bytes}
use Rattle.std.proofs.lemmas.List.{take_rest}
use Rattle.std.proofs.lemmas.Nat.{be_bytes_8}
use Rattle.bits.specs.Bits.{Bits, to_bits, bits_of, from, end}
use Rattle.bits.proofs.Numbers.{to_bits_mod}
use Rattle.bits.proofs.Places.{end_is, from_chunk}
use Rattle.bits.proofs.Words.{bits_split}

pow_bytes : (k : ℕ) → 256 ^ k ≡ 2 ^ (k * 8)
pow_bytes zero = refl
pow_bytes (suc k) = let e : suc k * 8 ≡ k * 8 + 8 = omega arith in rw (e, pow-add, pow-suc 256 k, pow_bytes k) refl

byte_is : (k v : ℕ) → byte_at k v ≡ v / 2 ^ (k * 8) % 2 ^ 8
byte_is zero v = omega arith
byte_is (suc k) v = rw (pow_bytes (suc k)) refl

-- a number's bytes
pub high_bytes : (n v k : ℕ) → get_or (bytes_high_first n v) k 0 < 256
high_bytes zero v k = lit< tt
high_bytes (suc n) v zero = rw (byte_is n v) (mod-lt (v / 2 ^ (n * 8)) (lit< tt))
high_bytes (suc n) v (suc k) = high_bytes n v k

pub bits-of_bytes : (k v : ℕ) → bits_of (bytes_high_first k v) ≡ to_bits (k * 8) v
unfolding bits_of to_bits
bits-of_bytes zero v = refl
bits-of_bytes (suc k) v =
    let e : suc k * 8 ≡ 8 + k * 8 = omega arith in
    rw (e, bits_split 8 (k * 8) v, byte_is k v, bits-of_bytes k v)
    (ap (λ (l : Bits). l ++ to_bits (k * 8) v) (to_bits_mod 8 8 (v / 2 ^ (k * 8)) (omega arith)))

-- the bits of n bytes, and then the others
pub from_bytes : (n : ℕ) (xs : List ℕ) (i : ℕ) → i * 8 + n * 8 ≤ end xs → from xs (i * 8) ≡ bits_of (take n (drop i xs)) ++ from xs (i * 8 + n * 8)
unfolding bits_of
from_bytes zero xs i h = let e : i * 8 + 0 ≡ i * 8 = omega arith in rw e refl
from_bytes (suc n) xs i h =
    let a : i * 8 / 8 ≡ i = omega arith in
    let b : i * 8 + 8 ≡ suc i * 8 = omega arith in
    let o : get_or xs i 0 / 2 ^ 0 ≡ get_or xs i 0 = omega arith in
    let e : suc i * 8 + n * 8 ≡ i * 8 + suc n * 8 = omega arith in
    let c : from xs (i * 8) ≡ to_bits 8 (get_or xs i 0) ++ from xs (suc i * 8) = rw (a, b, o) at (from_chunk xs (i * 8) 8 0 (omega arith) (omega arith)) in
    let r : from xs (suc i * 8) ≡ bits_of (take n (drop (suc i) xs)) ++ from xs (i * 8 + suc n * 8) = rw e at (from_bytes n xs (suc i) (omega arith)) in
    c
    ∙ ap (λ (l : Bits). to_bits 8 (get_or xs i 0) ++ l) r
    ∙ sym (append_assoc (to_bits 8 (get_or xs i 0)) (bits_of (take n (drop (suc i) xs))) _)
    ∙ rw (drop-cons xs i 0 (omega (arith, end_is xs))) refl

take_bytes : (n : ℕ) (xs : List ℕ) → ((k : ℕ) → get_or xs k 0 < 256) → (k : ℕ) → get_or (take n xs) k 0 < 256
take_bytes zero xs b k = lit< tt
take_bytes (suc n) [] b k = lit< tt
take_bytes (suc n) (x ∷ xs) b zero = b 0
take_bytes (suc n) (x ∷ xs) b (suc k) = take_bytes n xs (λ j. b (suc j)) k

-- the number that the eight bytes from i on are
pub from-word : (xs : List ℕ) (i : ℕ) {w : ℕ} {bs : List ℕ} → i * 8 + 64 ≤ end xs → ((k : ℕ) → get_or xs k 0 < 256) → bs ≡ take 8 (take (length xs - i) (drop i xs)) → w ≡ from_be_bytes w64 bs
    → from xs (i * 8) ≡ to_bits 64 w ++ from xs (i * 8 + 64)
from-word xs i {w} {bs} h b t e =
    let q : bs ≡ take 8 (drop i xs) = rw (take_rest xs i) at t in
    let l : length bs ≡ 8 = rw (q, length-take, length-drop) (omega (arith, end_is xs)) in
    let s : (k : ℕ) → get_or bs k 0 < 256 = rw q (take_bytes 8 (drop i xs) (λ k. rw (get_or-drop i xs k 0) (b (i + k)))) in
    from_bytes 8 xs i h ∙ ap (λ (y : Bits). y ++ from xs (i * 8 + 64)) (ap bits_of (sym q ∙ sym (be_bytes_8 bs w l s e)) ∙ bits-of_bytes 8 w)
