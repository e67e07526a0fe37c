-- How the writer stores a feature's value: its bits as one number.
use Rattle.std.specs.Prelude.{cond, ℕ, ◌+◌, ltb, ℤ, pos, neg_ℤ, nat_abs}
use Rattle.bits.specs.Codes.{su_out}
use Rattle.parts.specs.Codes.{clip}
use Rattle.segmentation.specs.Segmentation.{feature_bits, feature_max}

abbrev pub value_bits : ℕ → ℕ
value_bits j = cond (ltb j 5) (feature_bits j + 1) (feature_bits j)

unfoldable pub value_code : ℕ → ℤ → ℕ
value_code j v = cond (ltb j 5) (su_out (value_bits j) (clip (neg_ℤ (feature_max j)) (feature_max j) v)) (nat_abs (clip (pos 0) (feature_max j) v))
