-- A run of bits; a number in n bits, most significant first (4.10.2); the bits of bytes; and a store of bits in bytes.
use Rattle.std.specs.Prelude.{List, [], ◌∷◌, ◌++◌, Bool, true, false, cond, ℕ, zero, suc, ◌+◌, ◌*◌, ◌^◌, ◌/◌, ◌%◌, length, get_or, set, take, drop, eqb, ltb}

abbrev pub Bits : Type 0
Bits = List Bool

abbrev pub bit : Bool → ℕ
bit true = 1
bit false = 0

-- bit k of v, bit 0 being the lowest
unfoldable pub bit_at : ℕ → ℕ → Bool
bit_at k v = eqb (v / 2 ^ k % 2) 1

-- the n low bits of v, the highest first
unfoldable pub to_bits : ℕ → ℕ → Bits
to_bits zero v = []
to_bits (suc n) v = bit_at n v ∷ to_bits n v

-- the number that some bits are
unfoldable pub from_bits : Bits → ℕ
from_bits [] = 0
from_bits (b ∷ bs) = bit b * 2 ^ length bs + from_bits bs

-- the bits of some bytes
unfoldable pub bits_of : List ℕ → Bits
bits_of [] = []
bits_of (x ∷ xs) = to_bits 8 x ++ bits_of xs

-- A place counts bits from the first byte's top one. Places end at the limit, 2^63: what a slice has beyond is neither read nor stored. No machine
-- has so long a slice; with the limit no sum of places can wrap, so that no function asks anything of the place that it is given.
abbrev pub limit : ℕ
limit = 9223372036854775808

-- the bytes below the limit
unfoldable pub reached : List ℕ → List ℕ
reached xs = take 1152921504606846976 xs

-- where the places of some bytes end
unfoldable pub end : List ℕ → ℕ
end xs = length (reached xs) * 8

-- the bits from a place on
unfoldable pub from : List ℕ → ℕ → Bits
from xs at = drop at (bits_of (reached xs))

-- what bit k of a byte weighs, bit 0 being the top one
abbrev pub weight : ℕ → ℕ
weight k = 128 / 2 ^ k

-- the byte x with the bit of weight w made b
abbrev pub with_bit : ℕ → ℕ → ℕ → ℕ
with_bit x w b = x / (w * 2) * (w * 2) + b * w + x % w

-- the bytes xs with the bit at a place made b: as they are where the place is past their end or not below the limit
unfoldable pub set_bit : List ℕ → ℕ → Bool → List ℕ
set_bit xs at b = cond (ltb at limit) (set xs (at / 8) (with_bit (get_or xs (at / 8) 0) (weight (at % 8)) (bit b))) xs

-- the bits bs stored from a place on
unfoldable pub put : List ℕ → ℕ → Bits → List ℕ
put xs at [] = xs
put xs at (b ∷ bs) = put (set_bit xs at b) (suc at) bs
