-- A record to start from: an ordinary video of a width, a height and a bit depth.
use Rattle.std.specs.Prelude.{◌∷◌, true, false, cond, not, ◌||◌, ℕ, ◌+◌, ◌-◌, ◌%◌, eqb, replicate}
use Rattle.bits.specs.Widths.{bit_length}
use Rattle.sequence.specs.declared.record.OperatingPoint.{OperatingPoint}
use Rattle.sequence.specs.declared.record.ColorConfig.{ColorConfig}
use Rattle.sequence.specs.declared.record.SequenceHeaderObu.{SequenceHeaderObu}
use Rattle.sequence.specs.Timing.{no_timing_info, no_decoder_model_info}
use Rattle.sequence.specs.Points.{no_point}

-- A width or height minus 1, in 32 bits: of 0 it is the largest number, which is refused as too large.
abbrev pub minus_1 : ℕ → ℕ
minus_1 size = (size + 4294967295) % 4294967296

-- the fewest bits that hold it, minus 1; of 0 it is 0
abbrev pub bits_minus_1 : ℕ → ℕ
bits_minus_1 size = bit_length (minus_1 size) - 1

-- 8 and 10 bits are of profile 0, 12 of profile 2
abbrev pub profile : ℕ → ℕ
profile depth = cond (eqb depth 12) 2 0

-- 4:2:0, whose colours are not specified; a depth other than 8, 10 and 12 is twelve_bit alone, which is refused
abbrev pub color : ℕ → ColorConfig
color depth = record {
  high_bitdepth = eqb depth 10 || eqb depth 12;
  twelve_bit = not (eqb depth 8 || eqb depth 10);
  mono_chrome = false;
  color_description_present_flag = false;
  color_primaries = 2;
  transfer_characteristics = 2;
  matrix_coefficients = 2;
  color_range = false;
  subsampling_x = true;
  subsampling_y = true;
  chroma_sample_position = 0;
  separate_uv_delta_q = false;
  num_planes = 3;
}

-- the one operating point: all layers, at level 31, which claims no limit
abbrev pub point : OperatingPoint
point = record {
  idc = 0;
  seq_level_idx = 31;
  seq_tier = 0;
  decoder_model_present_for_this_op = false;
  decoder_buffer_delay = 0;
  encoder_buffer_delay = 0;
  low_delay_mode_flag = false;
  initial_display_delay_present_for_this_op = false;
  initial_display_delay_minus_1 = 0;
}

-- all the coding tools but superres, with order hints of 7 bits; no timing, no frame ids, no film grain
unfoldable pub video : ℕ → ℕ → ℕ → SequenceHeaderObu
video width height depth = record {
  obu_header = record { obu_type = 1; extension_flag = false; has_size_field = true; temporal_id = 0; spatial_id = 0 };
  seq_profile = profile depth;
  still_picture = false;
  reduced_still_picture_header = false;
  timing_info_present_flag = false;
  timing_info = no_timing_info;
  decoder_model_info_present_flag = false;
  decoder_model_info = no_decoder_model_info;
  initial_display_delay_present_flag = false;
  operating_points_cnt_minus_1 = 0;
  operating_points = point ∷ replicate 31 no_point;
  frame_width_bits_minus_1 = bits_minus_1 width;
  frame_height_bits_minus_1 = bits_minus_1 height;
  max_frame_width_minus_1 = minus_1 width;
  max_frame_height_minus_1 = minus_1 height;
  frame_id_numbers_present_flag = false;
  delta_frame_id_length_minus_2 = 0;
  additional_frame_id_length_minus_1 = 0;
  use_128x128_superblock = true;
  enable_filter_intra = true;
  enable_intra_edge_filter = true;
  enable_interintra_compound = true;
  enable_masked_compound = true;
  enable_warped_motion = true;
  enable_dual_filter = true;
  enable_order_hint = true;
  enable_jnt_comp = true;
  enable_ref_frame_mvs = true;
  seq_choose_screen_content_tools = true;
  seq_force_screen_content_tools = 2;
  seq_choose_integer_mv = true;
  seq_force_integer_mv = 2;
  order_hint_bits_minus_1 = 6;
  order_hint_bits = 7;
  enable_superres = false;
  enable_cdef = true;
  enable_restoration = true;
  color_config = color depth;
  film_grain_params_present = false;
}
