-- The record with what its fields hold of the numbers. Only contracts of functions inside cite this, and no public call's.
use Rattle.std.specs.Prelude.{map}
use Rattle.segmentation.specs.declared.record.SegmentationParams.{SegmentationParams}
use Rattle.numbers.specs.Held.{int16}

abbrev pub held_segmentation : SegmentationParams → SegmentationParams
held_segmentation p = record {
  segmentation_enabled = p.segmentation_enabled;
  segmentation_update_map = p.segmentation_update_map;
  segmentation_temporal_update = p.segmentation_temporal_update;
  segmentation_update_data = p.segmentation_update_data;
  feature_enabled = p.feature_enabled;
  feature_data = map int16 p.feature_data;
}
