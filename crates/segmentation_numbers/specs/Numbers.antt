-- The record's numbers, in the order of the case lines: the context first.
use Rattle.std.specs.Prelude.{List, ◌+◌, ℤ}
use Rattle.bits.specs.Walk.{Walk}
use Rattle.segmentation.specs.Segmentation as segmentation
use Rattle.segmentation.specs.declared.record.SegmentationParams.{SegmentationParams}
use Rattle.segmentation.specs.declared.record.SegmentationContext.{SegmentationContext}
use Rattle.numbers.specs.Numbers.{signed_at, set_at, natural_at, each}

abbrev pub segmentation_context : List ℤ → SegmentationContext
segmentation_context xs = record { primary_ref_frame = natural_at xs 0 }

abbrev pub segmentation_params : List ℤ → SegmentationParams
segmentation_params xs = record {
  segmentation_enabled = set_at xs 1;
  segmentation_update_map = set_at xs 2;
  segmentation_temporal_update = set_at xs 3;
  segmentation_update_data = set_at xs 4;
  feature_enabled = each 64 (λ i. set_at xs (5 + i));
  feature_data = each 64 (λ i. signed_at xs (69 + i));
}

-- what the numbers have written
abbrev pub segmentation_walk : List ℤ → Walk
segmentation_walk xs = (segmentation.segmentation_params (segmentation_context xs)).enc (segmentation_params xs)
