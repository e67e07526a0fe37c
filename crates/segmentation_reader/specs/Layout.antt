-- Where each segmentation parameter stands in the record's numbers, behind the context's.
use Rattle.std.specs.Prelude.{List, Bool, false, ℕ, ◌+◌, ℤ, pos}
use Rattle.bits.specs.Codec.{Codec}
use Rattle.fill.specs.Fills.{same, signed_bit, of, each, ◌▸◌}
use Rattle.parts.specs.Codes.{zip, firsts, seconds}
use Rattle.parts_reader.specs.Reading.{In, number_at}
use Rattle.segmentation.specs.declared.record.SegmentationParams.{SegmentationParams}
use Rattle.segmentation.specs.Segmentation.{Features, Updates, segmentation_out, segmentation_in, segmentation_params}
use Rattle.segmentation_numbers.specs.Numbers.{segmentation_context}

-- the flags from 5 on, and the values from 69 on
unfoldable pub feature_place : ℕ → In (Bool × ℤ)
feature_place i = number_at (5 + i) signed_bit ▸ number_at (69 + i) same

unfoldable pub features_place : In Features
features_place = of (λ p. zip false (pos 0) p.0 p.1) (λ ps. (firsts ps, seconds ps)) (each (false, pos 0) feature_place 64 0 64)

unfoldable pub enabled_place : In (Updates × Features)
enabled_place = (number_at 2 signed_bit ▸ number_at 3 signed_bit ▸ number_at 4 signed_bit) ▸ features_place

unfoldable pub segmentation_place : In SegmentationParams
segmentation_place = of segmentation_out segmentation_in (number_at 1 signed_bit ▸ enabled_place)

-- the table by the context that stands in the numbers
abbrev pub segmentation_by : List ℤ → Codec SegmentationParams
segmentation_by ns = segmentation_params (segmentation_context ns)
