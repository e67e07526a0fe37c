-- How the bits of a part that is written again stand to those that were read: the same, but for the code of a value beyond its limit, where that of the limit
-- stands.
use Rattle.std.specs.Prelude.{◌≡◌, ◌++◌, ℕ, ◌+◌, ℤ, neg_ℤ}
use Rattle.bits.specs.Bits.{Bits, to_bits}
use Rattle.bits.specs.Codes.{su_out}
use Rattle.parts.specs.Codes.{clip}
use Rattle.segmentation.specs.Segmentation.{feature_bits, feature_max}

-- a signed value of feature j, held to its limit, and the code of one
abbrev pub held : ℕ → ℤ → ℤ
held j z = clip (neg_ℤ (feature_max j)) (feature_max j) z

abbrev pub signed_code : ℕ → ℤ → Bits
signed_code j z = to_bits (feature_bits j + 1) (su_out (feature_bits j + 1) z)

-- (No value without sign is beyond its limit, which is the largest number of its bits.)
pub data Clipped : Bits → Bits → Type 0 where
  same : (bs : Bits) → Clipped bs bs
  both : {a b c d : Bits} → Clipped a b → Clipped c d → Clipped (a ++ c) (b ++ d)
  beyond : (j : ℕ) (z : ℤ) → (held j z ≡ z → ⊥) → Clipped (signed_code j (held j z)) (signed_code j z)
