-- The records of document 01's worked table.
use mathlib.Core.List.{List, ◌∷◌}
use mathlib.Core.Bool.{Bool, true, false, cond}
use Prim.Native.Nat.{ℕ}
use lib.ListN.{replicate}
use lib.IntN.{pos, negsuc}
use Rattle.sequence.specs.declared.record.TimingInfo.{TimingInfo}
use Rattle.sequence.specs.declared.record.DecoderModelInfo.{DecoderModelInfo}
use Rattle.sequence.specs.declared.record.OperatingPoint.{OperatingPoint}
use Rattle.sequence.specs.declared.record.ColorConfig.{ColorConfig}
use Rattle.sequence.specs.declared.record.SequenceHeaderObu.{SequenceHeaderObu}
use Rattle.sequence.specs.Timing.{no_timing_info, no_decoder_model_info}
use Rattle.sequence.specs.Points.{no_point}
use Rattle.quantization.specs.declared.record.QuantizationParams.{QuantizationParams}
use Rattle.cdef.specs.declared.record.CdefParams.{CdefParams}

-- what no walk of cases 2, 3, 6 and 7 looks at
pub record Unlooked : Type 0 where
  pub temporal : ℕ
  pub spatial : ℕ
  pub timing : TimingInfo
  pub has_model : Bool
  pub model : DecoderModelInfo
  pub tier : ℕ
  pub decoder : ℕ
  pub encoder : ℕ
  pub low : Bool
  pub delays : Bool
  pub delay : ℕ
  pub points : List OperatingPoint
  pub delta : ℕ
  pub additional : ℕ
  pub screen : Bool
  pub integer : Bool
  pub hint : ℕ

-- what is not looked at reads as 0
abbrev pub none : Unlooked
none = record {
  temporal = 0;
  spatial = 0;
  timing = no_timing_info;
  has_model = false;
  model = no_decoder_model_info;
  tier = 0;
  decoder = 0;
  encoder = 0;
  low = false;
  delays = false;
  delay = 0;
  points = replicate 31 no_point;
  delta = 0;
  additional = 0;
  screen = false;
  integer = false;
  hint = 0;
}

abbrev pub color : Bool → ColorConfig
color mono = record {
  high_bitdepth = false;
  twelve_bit = false;
  mono_chrome = mono;
  color_description_present_flag = false;
  color_primaries = 2;
  transfer_characteristics = 2;
  matrix_coefficients = 2;
  color_range = false;
  subsampling_x = true;
  subsampling_y = true;
  chroma_sample_position = 0;
  separate_uv_delta_q = false;
  num_planes = cond mono 1 3;
}

-- reduced still, 1 by 1, level 0, mono, other coded fields 0, inferred ones as inferred; with a width and its bit count minus 1
abbrev pub still_point : Unlooked → OperatingPoint
still_point u = record { idc = 0; seq_level_idx = 0; seq_tier = u.tier; decoder_model_present_for_this_op = false; decoder_buffer_delay = u.decoder; encoder_buffer_delay = u.encoder; low_delay_mode_flag = u.low; initial_display_delay_present_for_this_op = false; initial_display_delay_minus_1 = u.delay }

abbrev pub still : ℕ → ℕ → Unlooked → SequenceHeaderObu
still bits width u = record {
  obu_header = record { obu_type = 1; extension_flag = false; has_size_field = true; temporal_id = u.temporal; spatial_id = u.spatial };
  seq_profile = 0;
  still_picture = true;
  reduced_still_picture_header = true;
  timing_info_present_flag = false;
  timing_info = u.timing;
  decoder_model_info_present_flag = u.has_model;
  decoder_model_info = u.model;
  initial_display_delay_present_flag = false;
  operating_points_cnt_minus_1 = 0;
  operating_points = still_point u ∷ u.points;
  frame_width_bits_minus_1 = bits;
  frame_height_bits_minus_1 = 0;
  max_frame_width_minus_1 = width;
  max_frame_height_minus_1 = 0;
  frame_id_numbers_present_flag = false;
  delta_frame_id_length_minus_2 = u.delta;
  additional_frame_id_length_minus_1 = u.additional;
  use_128x128_superblock = false;
  enable_filter_intra = false;
  enable_intra_edge_filter = false;
  enable_interintra_compound = false;
  enable_masked_compound = false;
  enable_warped_motion = false;
  enable_dual_filter = false;
  enable_order_hint = false;
  enable_jnt_comp = false;
  enable_ref_frame_mvs = false;
  seq_choose_screen_content_tools = u.screen;
  seq_force_screen_content_tools = 2;
  seq_choose_integer_mv = u.integer;
  seq_force_integer_mv = 2;
  order_hint_bits_minus_1 = u.hint;
  order_hint_bits = 0;
  enable_superres = false;
  enable_cdef = false;
  enable_restoration = false;
  color_config = color true;
  film_grain_params_present = false;
}

-- 1920 by 1080
abbrev pub hd_point : Unlooked → OperatingPoint
hd_point u = record { idc = 0; seq_level_idx = 8; seq_tier = 0; decoder_model_present_for_this_op = false; decoder_buffer_delay = u.decoder; encoder_buffer_delay = u.encoder; low_delay_mode_flag = u.low; initial_display_delay_present_for_this_op = u.delays; initial_display_delay_minus_1 = u.delay }

abbrev pub hd : Unlooked → SequenceHeaderObu
hd u = record {
  obu_header = record { obu_type = 1; extension_flag = false; has_size_field = true; temporal_id = u.temporal; spatial_id = u.spatial };
  seq_profile = 0;
  still_picture = false;
  reduced_still_picture_header = false;
  timing_info_present_flag = false;
  timing_info = u.timing;
  decoder_model_info_present_flag = false;
  decoder_model_info = u.model;
  initial_display_delay_present_flag = false;
  operating_points_cnt_minus_1 = 0;
  operating_points = hd_point u ∷ u.points;
  frame_width_bits_minus_1 = 10;
  frame_height_bits_minus_1 = 10;
  max_frame_width_minus_1 = 1919;
  max_frame_height_minus_1 = 1079;
  frame_id_numbers_present_flag = false;
  delta_frame_id_length_minus_2 = u.delta;
  additional_frame_id_length_minus_1 = u.additional;
  use_128x128_superblock = true;
  enable_filter_intra = true;
  enable_intra_edge_filter = true;
  enable_interintra_compound = true;
  enable_masked_compound = true;
  enable_warped_motion = true;
  enable_dual_filter = true;
  enable_order_hint = true;
  enable_jnt_comp = true;
  enable_ref_frame_mvs = true;
  seq_choose_screen_content_tools = true;
  seq_force_screen_content_tools = 2;
  seq_choose_integer_mv = true;
  seq_force_integer_mv = 2;
  order_hint_bits_minus_1 = 6;
  order_hint_bits = 7;
  enable_superres = false;
  enable_cdef = true;
  enable_restoration = true;
  color_config = color false;
  film_grain_params_present = false;
}

-- base 100, luma delta -1, no matrices
abbrev pub quantization : QuantizationParams
quantization = record { base_q_idx = 100; delta_q_y_dc = negsuc 0; diff_uv_delta = false; delta_q_u_dc = pos 0; delta_q_u_ac = pos 0; delta_q_v_dc = pos 0; delta_q_v_ac = pos 0; using_qmatrix = false; qm_y = 0; qm_u = 0; qm_v = 0 }

-- damping 3, bits 0, strengths 1 and 4
abbrev pub cdef : CdefParams
cdef = record { cdef_bits = 0; cdef_damping = 3; cdef_y_pri_strength = 1 ∷ replicate 7 0; cdef_y_sec_strength = 4 ∷ replicate 7 0; cdef_uv_pri_strength = replicate 8 0; cdef_uv_sec_strength = replicate 8 0 }
