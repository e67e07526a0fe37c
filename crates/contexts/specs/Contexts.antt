-- What each part goes by: of the sequence header's record, and of the frame what its header says before the part.
use Rattle.std.specs.Prelude.{Bool, ℕ, eqb}
use Rattle.sequence.specs.declared.record.SequenceHeaderObu.{SequenceHeaderObu}
use Rattle.sequence.specs.Color.{plane_count}
use Rattle.quantization.specs.declared.record.QuantizationContext.{QuantizationContext}
use Rattle.segmentation.specs.declared.record.SegmentationContext.{SegmentationContext}
use Rattle.loop_filter.specs.declared.record.LoopFilterContext.{LoopFilterContext}
use Rattle.cdef.specs.declared.record.CdefContext.{CdefContext}
use Rattle.restoration.specs.declared.record.LoopRestorationContext.{LoopRestorationContext}

-- any number of planes but 1 counts as 3
abbrev pub planes_of : SequenceHeaderObu → ℕ
planes_of h = plane_count (eqb h.color_config.num_planes 1)

-- 5.9.12
abbrev pub quantization_context : SequenceHeaderObu → QuantizationContext
quantization_context h = record { planes = planes_of h; separate_uv_delta_q = h.color_config.separate_uv_delta_q }

-- 5.9.14
abbrev pub segmentation_context : ℕ → SegmentationContext
segmentation_context primary = record { primary_ref_frame = primary }

-- 5.9.11
abbrev pub loop_filter_context : SequenceHeaderObu → Bool → Bool → LoopFilterContext
loop_filter_context h lossless intrabc = record { coded_lossless = lossless; allow_intrabc = intrabc; planes = planes_of h }

-- 5.9.19
abbrev pub cdef_context : SequenceHeaderObu → Bool → Bool → CdefContext
cdef_context h lossless intrabc = record { coded_lossless = lossless; allow_intrabc = intrabc; enable_cdef = h.enable_cdef; planes = planes_of h }

-- 5.9.20
abbrev pub lr_context : SequenceHeaderObu → Bool → Bool → LoopRestorationContext
lr_context h lossless intrabc = record {
  all_lossless = lossless;
  allow_intrabc = intrabc;
  enable_restoration = h.enable_restoration;
  planes = planes_of h;
  use_128x128_superblock = h.use_128x128_superblock;
  subsampling_x = h.color_config.subsampling_x;
  subsampling_y = h.color_config.subsampling_y;
}
