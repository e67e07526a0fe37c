-- The most that each writer writes, and a record that takes it: the bytes of an OBU, the bits of a part. What has a width that does not go by its value
-- has here a value that the standard allows.
use Rattle.std.specs.Prelude.{List, [], ◌∷◌, true, false, ℕ, zero, suc, ◌+◌, ◌-◌, ◌*◌, ◌^◌, ◌/◌, ◌%◌, replicate, pos, negsuc}
use Rattle.bits.specs.Walk.{Walk}
use Rattle.obu.specs.declared.header.ObuHeader.{ObuHeader}
use Rattle.sequence.specs.declared.record.TimingInfo.{TimingInfo}
use Rattle.sequence.specs.declared.record.DecoderModelInfo.{DecoderModelInfo}
use Rattle.sequence.specs.declared.record.OperatingPoint.{OperatingPoint}
use Rattle.sequence.specs.declared.record.ColorConfig.{ColorConfig}
use Rattle.sequence.specs.declared.record.SequenceHeaderObu.{SequenceHeaderObu}
use Rattle.quantization.specs.declared.record.QuantizationParams.{QuantizationParams}
use Rattle.quantization.specs.declared.record.QuantizationContext.{QuantizationContext}
use Rattle.quantization.specs.Quantization.{quantization_params}
use Rattle.segmentation.specs.declared.record.SegmentationParams.{SegmentationParams}
use Rattle.segmentation.specs.declared.record.SegmentationContext.{SegmentationContext}
use Rattle.segmentation.specs.Segmentation.{segmentation_params}
use Rattle.loop_filter.specs.declared.record.LoopFilterParams.{LoopFilterParams}
use Rattle.loop_filter.specs.declared.record.LoopFilterContext.{LoopFilterContext}
use Rattle.loop_filter.specs.LoopFilter.{loop_filter_params, no_old}
use Rattle.cdef.specs.declared.record.CdefParams.{CdefParams}
use Rattle.cdef.specs.declared.record.CdefContext.{CdefContext}
use Rattle.cdef.specs.Cdef.{cdef_params}
use Rattle.restoration.specs.declared.record.LoopRestorationParams.{LoopRestorationParams}
use Rattle.restoration.specs.declared.record.LoopRestorationContext.{LoopRestorationContext}
use Rattle.restoration.specs.Restoration.{lr_params}

-- The sequence header: 397 bytes. All 32 operating points of a stream with four spatial and eight temporal layers, each with every optional field; the
-- longest tick count; an extension and a size.
abbrev pub sequence_header_max : ℕ
sequence_header_max = 397

abbrev pub extended : ℕ → ObuHeader
extended kind = record { obu_type = kind; extension_flag = true; has_size_field = true; temporal_id = 0; spatial_id = 0 }

-- point i leaves out the i / 8 highest spatial layers and the i % 8 highest temporal ones
abbrev pub layers : ℕ → ℕ
layers i = (2 ^ (4 - i / 8) - 1) * 256 + (2 ^ (8 - i % 8) - 1)

abbrev pub longest_point : ℕ → OperatingPoint
longest_point i = record {
  idc = layers i;
  seq_level_idx = 31;
  seq_tier = 1;
  decoder_model_present_for_this_op = true;
  decoder_buffer_delay = 90000;
  encoder_buffer_delay = 90000;
  low_delay_mode_flag = true;
  initial_display_delay_present_for_this_op = true;
  initial_display_delay_minus_1 = 9;
}

-- g i, g (i + 1), .., m of them
abbrev pub listed : {A : Type 0} → (ℕ → A) → ℕ → ℕ → List A
listed g zero i = []
listed g (suc m) i = g i ∷ listed g m (suc i)

unfoldable pub longest_points : List OperatingPoint
longest_points = listed longest_point 32 0

abbrev pub longest_timing : TimingInfo
longest_timing = record { num_units_in_display_tick = 1; time_scale = 60; equal_picture_interval = true; num_ticks_per_picture_minus_1 = 2 ^ 32 - 2 }

abbrev pub longest_model : DecoderModelInfo
longest_model = record { buffer_delay_length_minus_1 = 31; num_units_in_decoding_tick = 1; buffer_removal_time_length_minus_1 = 31; frame_presentation_time_length_minus_1 = 31 }

-- 12 bits, 4:2:0, BT.2020 with PQ
abbrev pub longest_color : ColorConfig
longest_color = record {
  high_bitdepth = true;
  twelve_bit = true;
  mono_chrome = false;
  color_description_present_flag = true;
  color_primaries = 9;
  transfer_characteristics = 16;
  matrix_coefficients = 9;
  color_range = true;
  subsampling_x = true;
  subsampling_y = true;
  chroma_sample_position = 2;
  separate_uv_delta_q = true;
  num_planes = 3;
}

abbrev pub longest_header : SequenceHeaderObu
longest_header = record {
  obu_header = extended 1;
  seq_profile = 2;
  still_picture = false;
  reduced_still_picture_header = false;
  timing_info_present_flag = true;
  timing_info = longest_timing;
  decoder_model_info_present_flag = true;
  decoder_model_info = longest_model;
  initial_display_delay_present_flag = true;
  operating_points_cnt_minus_1 = 31;
  operating_points = longest_points;
  frame_width_bits_minus_1 = 15;
  frame_height_bits_minus_1 = 15;
  max_frame_width_minus_1 = 65535;
  max_frame_height_minus_1 = 65535;
  frame_id_numbers_present_flag = true;
  delta_frame_id_length_minus_2 = 7;
  additional_frame_id_length_minus_1 = 5;
  use_128x128_superblock = true;
  enable_filter_intra = true;
  enable_intra_edge_filter = true;
  enable_interintra_compound = true;
  enable_masked_compound = true;
  enable_warped_motion = true;
  enable_dual_filter = true;
  enable_order_hint = true;
  enable_jnt_comp = true;
  enable_ref_frame_mvs = true;
  seq_choose_screen_content_tools = false;
  seq_force_screen_content_tools = 1;
  seq_choose_integer_mv = false;
  seq_force_integer_mv = 1;
  order_hint_bits_minus_1 = 7;
  order_hint_bits = 8;
  enable_superres = true;
  enable_cdef = true;
  enable_restoration = true;
  color_config = longest_color;
  film_grain_params_present = true;
}

-- The temporal delimiter: 3 bytes, with an extension and a size.
abbrev pub temporal_delimiter_max : ℕ
temporal_delimiter_max = 3

-- Quantization: 62 bits. Every delta, and all three matrices.
abbrev pub quantization_max_bits : ℕ
quantization_max_bits = 62

abbrev pub quantization : QuantizationContext × QuantizationParams → Walk
quantization (context, q) = (quantization_params context).enc q

abbrev pub longest_quantization : QuantizationContext × QuantizationParams
longest_quantization = (
  record { planes = 3; separate_uv_delta_q = true },
  record {
    base_q_idx = 255;
    delta_q_y_dc = negsuc 63;
    diff_uv_delta = true;
    delta_q_u_dc = pos 63;
    delta_q_u_ac = negsuc 63;
    delta_q_v_dc = negsuc 63;
    delta_q_v_ac = pos 63;
    using_qmatrix = true;
    qm_y = 15;
    qm_u = 15;
    qm_v = 15;
  },
)

-- Segmentation: 388 bits. A reference, all three updates, every feature of every segment.
abbrev pub segmentation_max_bits : ℕ
segmentation_max_bits = 388

abbrev pub segmentation : SegmentationContext × SegmentationParams → Walk
segmentation (context, p) = (segmentation_params context).enc p

abbrev pub longest_segmentation : SegmentationContext × SegmentationParams
longest_segmentation = (
  record { primary_ref_frame = 0 },
  record {
    segmentation_enabled = true;
    segmentation_update_map = true;
    segmentation_temporal_update = true;
    segmentation_update_data = true;
    feature_enabled = replicate 64 true;
    feature_data = replicate 64 (pos 0);
  },
)

-- The loop filter: 109 bits. Four levels and ten deltas.
abbrev pub loop_filter_max_bits : ℕ
loop_filter_max_bits = 109

abbrev pub loop_filter : LoopFilterContext × LoopFilterParams → Walk
loop_filter (context, p) = (loop_filter_params context no_old).enc p

abbrev pub longest_loop_filter : LoopFilterContext × LoopFilterParams
longest_loop_filter = (
  record { coded_lossless = false; allow_intrabc = false; planes = 3 },
  record {
    loop_filter_level = replicate 4 63;
    loop_filter_sharpness = 7;
    loop_filter_delta_enabled = true;
    loop_filter_delta_update = true;
    loop_filter_ref_deltas = replicate 8 (negsuc 63);
    loop_filter_mode_deltas = replicate 2 (pos 63);
  },
)

-- CDEF: 100 bits. Eight strengths, luma and chroma.
abbrev pub cdef_max_bits : ℕ
cdef_max_bits = 100

abbrev pub cdef : CdefContext × CdefParams → Walk
cdef (context, p) = (cdef_params context).enc p

abbrev pub longest_cdef : CdefContext × CdefParams
longest_cdef = (
  record { coded_lossless = false; allow_intrabc = false; enable_cdef = true; planes = 3 },
  record {
    cdef_bits = 3;
    cdef_damping = 6;
    cdef_y_pri_strength = replicate 8 15;
    cdef_y_sec_strength = replicate 8 4;
    cdef_uv_pri_strength = replicate 8 15;
    cdef_uv_sec_strength = replicate 8 4;
  },
)

-- Restoration: 9 bits. Three kinds, small superblocks with the longer shift, and the shift of subsampled chroma.
abbrev pub lr_max_bits : ℕ
lr_max_bits = 9

abbrev pub lr : LoopRestorationContext × LoopRestorationParams → Walk
lr (context, p) = (lr_params context).enc p

abbrev pub longest_lr : LoopRestorationContext × LoopRestorationParams
longest_lr = (
  record {
    all_lossless = false;
    allow_intrabc = false;
    enable_restoration = true;
    planes = 3;
    use_128x128_superblock = false;
    subsampling_x = true;
    subsampling_y = true;
  },
  record { frame_restoration_type = replicate 3 1; uses_lr = true; uses_chroma_lr = true; lr_unit_shift = 2; lr_uv_shift = 1 },
)
