-- How the size and the trailing bits are read: the number of the bytes that follow, and a scan by bytes.
use mathlib.Core.Path.{◌≡◌, refl, sym, ◌∙◌, ap}
use mathlib.Core.List.{List, [], ◌∷◌, ◌++◌}
use mathlib.Core.Bool.{Bool, true, false, ◌&&◌}
use Prim.Native.Nat.{ℕ, zero, suc, ◌+◌, ◌-◌, ◌*◌, ◌^◌, ◌/◌, ◌%◌, ◌<◌, ◌≤◌, min}
use native.Mathlib.Omega.{arith}
use native.Mathlib.Nat.{mod-lt}
use lib.Pow.{mod-pow-add, pow_pos, pow_mono}
use lib.ListN.{length, get_or, replicate}
use lib.Dec.{eqb, lit<}
use borrow.Author.Tests.{eq-eqb, ne_eqb, eqb-true, eqb-false}
use Rattle.std.specs.Prelude.{Result, Ok, Err, IsErrAnd}
use Rattle.bits.specs.Bits.{Bits, bit_at, to_bits, from_bits, from, end, limit, weight}
use Rattle.bits.specs.Codec.{Nil, nil}
use Rattle.bits.specs.Codes.{leb128}
use Rattle.bits.specs.Answers.{found, Moved}
use Rattle.bits.specs.declared.answer.Refusal.{Refusal}
use Rattle.bits.specs.declared.answer.Refusal.TheVariants.{Size, Trailing}
use Rattle.reader.specs.declared.BitReader.{BitReader}
use Rattle.reader.specs.Reading.{Said, said}
use Rattle.reader.proofs.Reading.{exit, stops}
use Rattle.bits.proofs.Numbers.{from-to, to_bits_mod}
use Rattle.bits.proofs.CodeLaws.{no_bits}
use Rattle.bits.proofs.Places.{length_from, from_end, from_chunk, weight_pow, end_is}
use Rattle.obu.specs.Framing.{all_zero, is_trailing, read_trailing, read_size}

-- Zeros, as bits and as a number
all_append : (xs ys : Bits) → all_zero (xs ++ ys) ≡ (all_zero xs && all_zero ys)
unfolding all_zero
all_append [] ys = refl
all_append (true ∷ xs) ys = refl
all_append (false ∷ xs) ys = all_append xs ys

zeros_are : (bs : Bits) → all_zero bs ≡ true → from_bits bs ≡ 0
unfolding all_zero from_bits
zeros_are [] h = refl
zeros_are (true ∷ bs) h = let z : ◌≡◌ {A = ℕ} 0 1 = cc in absurd (omega arith)
zeros_are (false ∷ bs) h = omega (arith, zeros_are bs h)

all_zeros : (n : ℕ) → all_zero (replicate n false) ≡ true
unfolding all_zero
all_zeros zero = refl
all_zeros (suc n) = all_zeros n

pub all_number : (n x : ℕ) → all_zero (to_bits n x) ≡ eqb (x % 2 ^ n) 0
all_number n x = go (eqb (x % 2 ^ n) 0) refl (all_zero (to_bits n x)) refl
  where
    go : (t : Bool) → eqb (x % 2 ^ n) 0 ≡ t → (u : Bool) → all_zero (to_bits n x) ≡ u → u ≡ t
    go true e u h =
        let z : x % 2 ^ n ≡ 0 = eqb-true (x % 2 ^ n) 0 e in
        let b : to_bits n x ≡ replicate n false = sym (to_bits_mod n n x (omega arith)) ∙ ap (to_bits n) z ∙ no_bits n in
        sym h ∙ ap all_zero b ∙ all_zeros n
    go false e true h = absurd (eqb-false (x % 2 ^ n) 0 e (sym (from-to n x) ∙ zeros_are (to_bits n x) h))
    go false e false h = refl

-- a one and zeros, as bits and as a number
one_number : (a b m : ℕ) → a < 2 → b < m → (eqb a 1 && eqb b 0) ≡ eqb (a * m + b) m
one_number zero b m h l = sym (ne_eqb (0 * m + b) m (λ e. omega arith))
one_number (suc zero) b m h l = go (eqb b 0) refl
  where
    go : (t : Bool) → eqb b 0 ≡ t → t ≡ eqb (1 * m + b) m
    go true e = sym (eq-eqb (1 * m + b) m (omega (arith, eqb-true b 0 e)))
    go false e = sym (ne_eqb (1 * m + b) m (λ q. eqb-false b 0 e (omega arith)))
one_number (suc (suc a)) b m h l = absurd (omega arith)

pub trailing_number : (j x : ℕ) → is_trailing (to_bits (suc j) x) ≡ eqb (x % 2 ^ suc j) (2 ^ j)
unfolding is_trailing to_bits bit_at
trailing_number j x =
    let s : suc j ≡ 1 + j = omega arith in
    let e : x % 2 ^ suc j ≡ x / 2 ^ j % 2 * 2 ^ j + x % 2 ^ j = rw s (mod-pow-add x 1 j) in
    rw (all_number j x, e) (one_number (x / 2 ^ j % 2) (x % 2 ^ j) (2 ^ j) (mod-lt (x / 2 ^ j) (lit< tt)) (mod-lt x (pow_pos j)))

-- the bits of x from k on
module _ (x k : ℕ) (l : k < 8) where
  one_is : weight k ≡ 2 ^ (7 - k)
  one_is = weight_pow k (7 - k) (omega arith)

  pub one_some : 0 < weight k * 2
  one_some = rw one_is (omega (arith, pow_pos (7 - k)))

  pub one_few : weight k * 2 < 2 ^ 64
  one_few = let h : 7 - k ≤ 7 = omega arith in rw one_is (omega (arith, pow_mono {j = 7} h))

  pub one_last : eqb (x % (weight k * 2)) (weight k) ≡ is_trailing (to_bits (8 - k) x)
  one_last =
      let s : 8 - k ≡ suc (7 - k) = omega arith in
      let d : 2 ^ (7 - k) * 2 ≡ 2 ^ suc (7 - k) = omega arith in
      rw (one_is, s, trailing_number (7 - k) x, d)

pub ruleset ones = (one_some, one_few, one_last)

-- How many bytes have places, and how many follow one
pub reach_is : (xs : List ℕ) (m : ℕ) → m ≡ end xs - 0 → m / 8 ≡ min (length xs) (limit / 8)
reach_is xs m e = omega (arith, end_is xs)

ends : (xs : List ℕ) (n : ℕ) → n ≡ min (length xs) (limit / 8) → end xs ≡ n * 8
ends xs n e = end_is xs ∙ omega arith

module _ (xs : List ℕ) (at size left : ℕ) (e : left ≡ end xs - at) where
  here : left ≡ length (from xs at)
  here = e ∙ sym (length_from xs at)

  pub follow_yes : left % 8 ≡ 0 → eqb size (left / 8) ≡ eqb (size * 8) (length (from xs at))
  follow_yes h = go (eqb size (left / 8)) refl
    where
      go : (t : Bool) → eqb size (left / 8) ≡ t → t ≡ eqb (size * 8) (length (from xs at))
      go true q = sym (eq-eqb (size * 8) (length (from xs at)) (omega (arith, here, eqb-true size (left / 8) q)))
      go false q = sym (ne_eqb (size * 8) (length (from xs at)) (λ z. eqb-false size (left / 8) q (omega (arith, here))))

  pub follow_no : (left % 8 ≡ 0 → ⊥) → false ≡ eqb (size * 8) (length (from xs at))
  follow_no h = sym (ne_eqb (size * 8) (length (from xs at)) (λ z. h (omega (arith, here))))

pub ruleset follows = (follow_yes, follow_no)

-- The size
module _ (sized : Bool) {p : BitReader} where
  pub size_none : sized ≡ false → Said (read_size sized) p p (Ok nil)
  unfolding read_size found Moved
  size_none e = said refl (record { finds = rw e; moves = refl })

module _ (sized : Bool) {p q : BitReader} (e : sized ≡ true) where
  pub size-stop : {y : Refusal} {r : Result Nil Refusal} → Said (leb128 8).dec p q (Err y) → IsErrAnd r (λ z. z ≡ y) → Said (read_size sized) p q r
  unfolding read_size
  size-stop s i = rw (exit i, e) (stops _ s (λ bs h. rw h refl))

  module _ {n : ℕ} (s : Said (leb128 8).dec p q (Ok n)) {t : Bool} (w : t ≡ eqb (n * 8) (length (from q.bytes.now q.at))) where
    pub size-right : t ≡ true → Said (read_size sized) p q (Ok nil)
    unfolding read_size found Moved
    size-right k = go s
      where
        go : Said (leb128 8).dec p q (Ok n) → Said (read_size sized) p q (Ok nil)
        go (said b r) = let u : t ≡ eqb (n * 8) (length (from p.bytes.now q.at)) = rw b at w in said b (record { finds = rw (e, r.finds, sym u ∙ k); moves = r.moves })

    pub size_wrong : t ≡ false → Said (read_size sized) p q (Err Size)
    unfolding read_size found Moved
    size_wrong k = go s
      where
        go : Said (leb128 8).dec p q (Ok n) → Said (read_size sized) p q (Err Size)
        go (said b r) = let u : t ≡ eqb (n * 8) (length (from p.bytes.now q.at)) = rw b at w in said b (record { finds = rw (e, r.finds, sym u ∙ k); moves = nil })

pub ruleset sizes = (size_none, size-stop, size-right, size_wrong)

-- The scan: a byte, and the bytes behind it
module _ (xs : List ℕ) (n i : ℕ) (e : n ≡ min (length xs) (limit / 8)) where
  byte : i < n → from xs (i * 8) ≡ to_bits 8 (get_or xs i 0 / 2 ^ 0) ++ from xs (i * 8 + 8)
  byte h =
      let k : i * 8 / 8 ≡ i = omega arith in
      rw k at (from_chunk xs (i * 8) 8 0 (omega (arith, ends xs n e)) (omega arith))

  zero_byte : i < n → get_or xs i 0 < 256 → all_zero (from xs (i * 8)) ≡ (eqb (get_or xs i 0) 0 && all_zero (from xs ((i + 1) * 8)))
  zero_byte h l =
      let k : i * 8 + 8 ≡ (i + 1) * 8 = omega arith in
      let m : get_or xs i 0 / 2 ^ 0 % 2 ^ 8 ≡ get_or xs i 0 = omega arith in
      rw (byte h, k) (all_append (to_bits 8 (get_or xs i 0 / 2 ^ 0)) (from xs ((i + 1) * 8)) ∙ rw (all_number 8 (get_or xs i 0 / 2 ^ 0), m))

  pub zero_next : i < n → get_or xs i 0 < 256 → (b : Bool) {t r : Bool} → r ≡ (b && eqb (get_or xs i 0) 0) → (b && all_zero (from xs (i * 8))) ≡ t → (r && all_zero (from xs ((i + 1) * 8))) ≡ t
  zero_next h l true q s = rw q (sym (zero_byte h l) ∙ s)
  zero_next h l false q s = rw q s

  pub zero-end : n ≤ i → true ≡ all_zero (from xs (i * 8))
  unfolding all_zero
  zero-end h = rw (from_end xs (i * 8) (omega (arith, ends xs n e)))

  pub zero_all : n ≤ i → (b : Bool) {t : Bool} → (b && all_zero (from xs (i * 8))) ≡ t → b ≡ t
  zero_all h true s = zero-end h ∙ s
  zero_all h false s = s

pub ruleset scans = (zero_next, zero_all)

-- a byte more
pub still_yes : (b : Bool) (x : ℕ) → x ≡ 0 → b ≡ (b && eqb x 0)
still_yes true x h = sym (eq-eqb x 0 h)
still_yes false x h = refl

pub still_no : (b : Bool) (x : ℕ) → (x ≡ 0 → ⊥) → false ≡ (b && eqb x 0)
still_no true x h = sym (ne_eqb x 0 h)
still_no false x h = refl

pub ruleset stills = (still_yes, still_no)

-- The trailing bits: the rest of a byte, and the bytes behind it
trailing_append : (j x : ℕ) (ys : Bits) → is_trailing (to_bits (suc j) x ++ ys) ≡ (is_trailing (to_bits (suc j) x) && all_zero ys)
unfolding is_trailing to_bits
trailing_append j x ys = go (bit_at j x)
  where
    go : (b : Bool) → (b && all_zero (to_bits j x ++ ys)) ≡ ((b && all_zero (to_bits j x)) && all_zero ys)
    go true = all_append (to_bits j x) ys
    go false = refl

module _ (p : BitReader) (n : ℕ) (e : n ≡ min (length p.bytes.now) (limit / 8)) where
  refuse : is_trailing (from p.bytes.now p.at) ≡ false → Said read_trailing p p (Err Trailing)
  unfolding read_trailing found Moved
  refuse h = said refl (record { finds = rw h; moves = nil })

  pub tail_none : n ≤ p.at / 8 → Said read_trailing p p (Err Trailing)
  unfolding is_trailing
  tail_none h = refuse (rw (from_end p.bytes.now p.at (omega (arith, ends p.bytes.now n e))))

  module _ (l : p.at / 8 < n) (t : Bool) (f : t ≡ is_trailing (to_bits (8 - p.at % 8) (get_or p.bytes.now (p.at / 8) 0))) where
    split : is_trailing (from p.bytes.now p.at) ≡ (t && all_zero (from p.bytes.now ((p.at / 8 + 1) * 8)))
    split =
        let x = get_or p.bytes.now (p.at / 8) 0 in
        let d : x / 2 ^ 0 ≡ x = omega arith in
        let k : 8 - p.at % 8 ≡ suc (7 - p.at % 8) = omega arith in
        let m : p.at + (8 - p.at % 8) ≡ (p.at / 8 + 1) * 8 = omega arith in
        let q : from p.bytes.now p.at ≡ to_bits (8 - p.at % 8) (x / 2 ^ 0) ++ from p.bytes.now (p.at + (8 - p.at % 8)) =
        from_chunk p.bytes.now p.at (8 - p.at % 8) 0 (omega (arith, ends p.bytes.now n e)) (omega arith) in
        rw (q, d, m, f, k) (trailing_append (7 - p.at % 8) x (from p.bytes.now ((p.at / 8 + 1) * 8)))

    pub tail_broken : t ≡ false → Said read_trailing p p (Err Trailing)
    tail_broken h = refuse (split ∙ rw h)

    module _ (h : t ≡ true) (u : Bool) (z : u ≡ all_zero (from p.bytes.now ((p.at / 8 + 1) * 8))) where
      pub tail-padded : u ≡ false → Said read_trailing p p (Err Trailing)
      tail-padded k = refuse (split ∙ rw (h, ← z, k))

      pub tail_met : u ≡ true → Said read_trailing p (record { bytes = p.bytes; at = n * 8 }) (Ok nil)
      unfolding read_trailing found Moved
      tail_met k =
          let b : is_trailing (from p.bytes.now p.at) ≡ true = split ∙ rw (h, ← z, k) in
          said refl (record { finds = rw (b, from_end p.bytes.now (n * 8) (omega (arith, ends p.bytes.now n e))); moves = omega (arith, ends p.bytes.now n e) })

pub ruleset tails = (tail_none, tail_broken, tail-padded, tail_met)
