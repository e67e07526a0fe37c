-- A field whose number codes a value, and two fields, read as one.
use mathlib.Core.Path.{◌≡◌, refl, ap}
use mathlib.Core.List.{[], ◌∷◌, ◌++◌}
use Prim.Native.Nat.{ℕ, zero, suc, ◌+◌, ◌*◌, ◌^◌, ◌/◌, ◌%◌, ◌<◌}
use native.Mathlib.Omega.{arith}
use native.Mathlib.Nat.{zero-add, suc-add, mul_assoc}
use lib.ListN.{length, length-append}
use lib.Pow.{pow-add, high, low}
use Rattle.bits.specs.Bits.{Bits, bit, from_bits, from}
use Rattle.bits.specs.Codec.{Codec, Got, got, stop, and_then, take_bits, field_as, f, ◌▷◌}
use Rattle.std.specs.Prelude.{Result, Ok, Err, IsErrAnd}
use Rattle.bits.specs.Answers.{found, Moved}
use Rattle.bits.specs.declared.answer.Refusal.{Refusal}
use Rattle.bits.specs.declared.answer.Refusal.TheVariants.{Ends}
use Rattle.bits.proofs.Numbers.{from_lt}
use Rattle.bits.proofs.Leaves.{take_inv}
use Rattle.reader.specs.declared.BitReader.{BitReader}
use Rattle.reader.specs.Reading.{Said, said}
use Rattle.reader.proofs.Reading.{stops, start, field_as_lem, last, last_no}

-- n bits, whose number codes a value: how it is written does not matter
abbrev pub bits_of : {B : Type 0} → ℕ → (ℕ → B) → Codec B
bits_of n h = field_as n (λ _. 0) h (λ _. Ends)

module _ (n : ℕ) {B : Type 0} (h : ℕ → B) {p q : BitReader} where
  pub field-done : {v : ℕ} → Said (f n 0 0).dec p q (Ok v) → Said (bits_of n h).dec p q (Ok (h v))
  field-done s = start _ (field_as_lem n (λ _. 0) h (λ _. Ends) (last (f n 0 0) s refl))

  pub field_halt : {y : Refusal} {r : Result B Refusal} → Said (f n 0 0).dec p q (Err y) → IsErrAnd r (λ z. z ≡ y) → Said (bits_of n h).dec p q r
  field_halt s i = start _ (field_as_lem n (λ _. 0) h (λ _. Ends) (last_no (f n 0 0) s i))

-- two fields' bits
abbrev behind : Bits → Got Bits → Got Bits
behind xs y = and_then y (λ ys rest. got (xs ++ ys) rest)

take_two : (m n : ℕ) (bs : Bits) → take_bits (m + n) bs ≡ and_then (take_bits m bs) (λ xs rest. behind xs (take_bits n rest))
unfolding take_bits
take_two zero n bs = rw zero-add (go (take_bits n bs))
  where
    go : (g : Got Bits) → g ≡ behind [] g
    go (got ys rest) = refl
    go (stop y) = refl
take_two (suc m) n [] = rw suc-add refl
take_two (suc m) n (b ∷ bs) = rw (suc-add, take_two m n bs) (go (take_bits m bs))
  where
    go : (g : Got Bits) → and_then (and_then g (λ xs rest. behind xs (take_bits n rest))) (λ xs rest. got (b ∷ xs) rest) ≡ and_then (and_then g (λ xs rest. got (b ∷ xs) rest)) (λ xs rest. behind xs (take_bits n rest))
    go (stop y) = refl
    go (got xs rest) = on (take_bits n rest)
      where
        on : (g : Got Bits) → and_then (behind xs g) (λ xs rest. got (b ∷ xs) rest) ≡ behind (b ∷ xs) g
        on (got ys end) = refl
        on (stop y) = refl

from_two : (xs ys : Bits) → from_bits (xs ++ ys) ≡ from_bits xs * 2 ^ length ys + from_bits ys
unfolding from_bits
from_two [] ys = omega arith
from_two (b ∷ xs) ys = rw (from_two xs ys, length-append xs ys, pow-add 2 (length xs) (length ys)) (omega (arith, mul_assoc (bit b) (2 ^ length xs) (2 ^ length ys)))

-- a number, and behind it a field whose number codes a value
module _ (m n : ℕ) {B : Type 0} (h : ℕ → B) where
  two_fields : (bs : Bits) → (f m 0 0 ▷ λ _. bits_of n h).dec bs ≡ and_then {B = ℕ × B} ((f (m + n) 0 0).dec bs) (λ v rest. got (v / 2 ^ n, h (v % 2 ^ n)) rest)
  unfolding f ◌▷◌
  two_fields bs = rw (take_two m n bs) (go (take_bits m bs))
    where
      two : (xs ys : Bits) → length ys ≡ n → ◌≡◌ {A = ℕ × B} (from_bits xs, h (from_bits ys)) (from_bits (xs ++ ys) / 2 ^ n, h (from_bits (xs ++ ys) % 2 ^ n))
      two xs ys k =
          let l : from_bits ys < 2 ^ n = rw k at (from_lt ys) in
          let e : from_bits (xs ++ ys) ≡ from_bits xs * 2 ^ n + from_bits ys = rw k at (from_two xs ys) in
          rw (e, high (from_bits xs) n l, low (from_bits xs) n l) refl

      go : (g : Got Bits) → and_then {B = ℕ × B} (and_then g (λ xs rest. got (from_bits xs) rest)) (λ a rest. and_then (and_then (take_bits n rest) (λ ys end. got (h (from_bits ys)) end)) (λ b end. got (a, b) end)) ≡ and_then {B = ℕ × B} (and_then (and_then g (λ xs rest. behind xs (take_bits n rest))) (λ xs rest. got (from_bits xs) rest)) (λ v rest. got (v / 2 ^ n, h (v % 2 ^ n)) rest)
      go (stop y) = refl
      go (got xs rest) = on (take_bits n rest) refl
        where
          on : (g : Got Bits) → take_bits n rest ≡ g → and_then {B = ℕ × B} (and_then g (λ ys end. got (h (from_bits ys)) end)) (λ b end. got (from_bits xs, b) end) ≡ and_then {B = ℕ × B} (and_then (behind xs g) (λ xs rest. got (from_bits xs) rest)) (λ v rest. got (v / 2 ^ n, h (v % 2 ^ n)) rest)
          on (got ys end) e = ap (λ (a : ℕ × B). got a end) (two xs ys (take_inv n rest ys end e).0)
          on (stop y) e = refl

  module _ {p q : BitReader} where
    pub two-fields : {v : ℕ} → Said (f (m + n) 0 0).dec p q (Ok v) → Said (f m 0 0 ▷ λ _. bits_of n h).dec p q (Ok (v / 2 ^ n, h (v % 2 ^ n)))
    unfolding found Moved
    two-fields (said e s) = said e (record { finds = rw (two_fields (from p.bytes.now p.at), s.finds) refl; moves = s.moves })

    pub two_stop : {y : Refusal} → Said (f (m + n) 0 0).dec p q (Err y) → Said (f m 0 0 ▷ λ _. bits_of n h).dec p q (Err y)
    two_stop s = stops _ s (λ bs e. rw (two_fields bs, e) refl)
