-- What the reader sets in the record that it answers (document 01, "Sequence walk"): a field that is neither coded nor checked is 0, and an inferred
-- one has the inferred value. The facts stand in the walk's order and have the names of the elements; `reduced-` is with the reduced header. Where
-- no fact speaks of a field, it is coded.
use mathlib.Core.Path.{◌≡◌}
use mathlib.Core.Bool.{true, false, ◌&&◌}
use Prim.Native.Nat.{ℕ, ◌+◌, ◌<◌, ◌≤◌}
use lib.ListN.{length, get_or}
use lib.Dec.{eqb}
use Rattle.obu.specs.declared.header.ObuHeader.{ObuHeader}
use Rattle.sequence.specs.declared.record.OperatingPoint.{OperatingPoint}
use Rattle.sequence.specs.declared.record.ColorConfig.{ColorConfig}
use Rattle.sequence.specs.declared.record.SequenceHeaderObu.{SequenceHeaderObu}
use Rattle.sequence.specs.Fields.{operating_parameters_info_of, color_description_of}
use Rattle.sequence.specs.Timing.{no_timing_info, no_decoder_model_info}
use Rattle.sequence.specs.Points.{no_operating_parameters_info, no_point}
use Rattle.sequence.specs.Color.{srgb, plane_count}

-- 5.3.2, 5.3.3
pub record HeaderSets (o : ObuHeader) : Type 0 where
  pub temporal_id : o.extension_flag ≡ false → o.temporal_id ≡ 0
  pub spatial_id : o.extension_flag ≡ false → o.spatial_id ≡ 0

module _ (h : SequenceHeaderObu) where
  abbrev pub Reduced : Type 0
  Reduced = h.reduced_still_picture_header ≡ true

  -- 5.5.1, 5.5.3, 5.5.4: what is not there is all 0
  pub record TimingSets : Type 0 where
    pub reduced_timing_info_present_flag : Reduced → h.timing_info_present_flag ≡ false
    pub timing_info : h.timing_info_present_flag ≡ false → h.timing_info ≡ no_timing_info
    pub num_ticks_per_picture_minus_1 : h.timing_info.equal_picture_interval ≡ false → h.timing_info.num_ticks_per_picture_minus_1 ≡ 0
    pub decoder_model_info_present_flag : h.timing_info_present_flag ≡ false → h.decoder_model_info_present_flag ≡ false
    pub decoder_model_info : h.decoder_model_info_present_flag ≡ false → h.decoder_model_info ≡ no_decoder_model_info

  -- 5.5.1, 5.5.5: one point
  pub record PointSets (p : OperatingPoint) : Type 0 where
    pub reduced_operating_point_idc : Reduced → p.idc ≡ 0
    pub reduced_seq_tier : Reduced → p.seq_tier ≡ 0
    pub seq_tier : p.seq_level_idx ≤ 7 → p.seq_tier ≡ 0
    pub decoder_model_present_for_this_op : h.decoder_model_info_present_flag ≡ false → p.decoder_model_present_for_this_op ≡ false
    pub operating_parameters_info : p.decoder_model_present_for_this_op ≡ false → operating_parameters_info_of p ≡ no_operating_parameters_info
    pub initial_display_delay_present_for_this_op : h.initial_display_delay_present_flag ≡ false → p.initial_display_delay_present_for_this_op ≡ false
    pub initial_display_delay_minus_1 : p.initial_display_delay_present_for_this_op ≡ false → p.initial_display_delay_minus_1 ≡ 0

  abbrev pub point : ℕ → OperatingPoint
  point i = get_or h.operating_points i no_point

  -- 5.5.1: the array of points, of which those beyond the count are all 0
  pub record PointsSets : Type 0 where
    pub reduced_initial_display_delay_present_flag : Reduced → h.initial_display_delay_present_flag ≡ false
    pub reduced_operating_points_cnt_minus_1 : Reduced → h.operating_points_cnt_minus_1 ≡ 0
    pub places : length h.operating_points ≡ 32
    pub beyond : (i : ℕ) → h.operating_points_cnt_minus_1 < i → point i ≡ no_point
    pub each : (i : ℕ) → PointSets (point i)

  -- 5.5.1
  pub record FrameIdsSets : Type 0 where
    pub reduced_frame_id_numbers_present_flag : Reduced → h.frame_id_numbers_present_flag ≡ false
    pub delta_frame_id_length_minus_2 : h.frame_id_numbers_present_flag ≡ false → h.delta_frame_id_length_minus_2 ≡ 0
    pub additional_frame_id_length_minus_1 : h.frame_id_numbers_present_flag ≡ false → h.additional_frame_id_length_minus_1 ≡ 0

  -- 5.5.1: a force value of 2 leaves the tool to each frame
  pub record ToolsSets : Type 0 where
    pub reduced_enable_interintra_compound : Reduced → h.enable_interintra_compound ≡ false
    pub reduced_enable_masked_compound : Reduced → h.enable_masked_compound ≡ false
    pub reduced_enable_warped_motion : Reduced → h.enable_warped_motion ≡ false
    pub reduced_enable_dual_filter : Reduced → h.enable_dual_filter ≡ false
    pub reduced_enable_order_hint : Reduced → h.enable_order_hint ≡ false
    pub enable_jnt_comp : h.enable_order_hint ≡ false → h.enable_jnt_comp ≡ false
    pub enable_ref_frame_mvs : h.enable_order_hint ≡ false → h.enable_ref_frame_mvs ≡ false
    pub reduced_seq_choose_screen_content_tools : Reduced → h.seq_choose_screen_content_tools ≡ false
    pub reduced_seq_force_screen_content_tools : Reduced → h.seq_force_screen_content_tools ≡ 2
    pub seq_force_screen_content_tools : h.seq_choose_screen_content_tools ≡ true → h.seq_force_screen_content_tools ≡ 2
    pub reduced_seq_choose_integer_mv : Reduced → h.seq_choose_integer_mv ≡ false
    pub reduced_seq_force_integer_mv : Reduced → h.seq_force_integer_mv ≡ 2
    pub no_seq_choose_integer_mv : h.seq_force_screen_content_tools ≡ 0 → h.seq_choose_integer_mv ≡ false
    pub no_seq_force_integer_mv : h.seq_force_screen_content_tools ≡ 0 → h.seq_force_integer_mv ≡ 2
    pub seq_force_integer_mv : h.seq_choose_integer_mv ≡ true → h.seq_force_integer_mv ≡ 2
    pub no_order_hint_bits_minus_1 : h.enable_order_hint ≡ false → h.order_hint_bits_minus_1 ≡ 0
    pub no_order_hint_bits : h.enable_order_hint ≡ false → h.order_hint_bits ≡ 0
    pub order_hint_bits : h.enable_order_hint ≡ true → h.order_hint_bits ≡ h.order_hint_bits_minus_1 + 1

-- 5.5.2: of one plane, of sRGB (BT.709, sRGB, identity), and of any other
module _ (profile : ℕ) (k : ColorConfig) where
  abbrev pub Srgb : Type 0
  Srgb = (k.mono_chrome ≡ false) × (srgb (color_description_of k) ≡ true)

  abbrev pub Other : Type 0
  Other = (k.mono_chrome ≡ false) × (srgb (color_description_of k) ≡ false)

  pub record ColorSets : Type 0 where
    pub twelve_bit : eqb profile 2 && k.high_bitdepth ≡ false → k.twelve_bit ≡ false
    pub mono_chrome : profile ≡ 1 → k.mono_chrome ≡ false
    pub color_primaries : k.color_description_present_flag ≡ false → k.color_primaries ≡ 2
    pub transfer_characteristics : k.color_description_present_flag ≡ false → k.transfer_characteristics ≡ 2
    pub matrix_coefficients : k.color_description_present_flag ≡ false → k.matrix_coefficients ≡ 2
    pub mono_subsampling_x : k.mono_chrome ≡ true → k.subsampling_x ≡ true
    pub mono_subsampling_y : k.mono_chrome ≡ true → k.subsampling_y ≡ true
    pub mono_chroma_sample_position : k.mono_chrome ≡ true → k.chroma_sample_position ≡ 0
    pub mono_separate_uv_delta_q : k.mono_chrome ≡ true → k.separate_uv_delta_q ≡ false
    pub srgb-color_range : Srgb → k.color_range ≡ true
    pub srgb-subsampling_x : Srgb → k.subsampling_x ≡ false
    pub srgb-subsampling_y : Srgb → k.subsampling_y ≡ false
    pub profile_0 : Other → profile ≡ 0 → (k.subsampling_x ≡ true) × (k.subsampling_y ≡ true)
    pub profile_1 : Other → profile ≡ 1 → (k.subsampling_x ≡ false) × (k.subsampling_y ≡ false)
    pub profile_2 : Other → profile ≡ 2 → k.twelve_bit ≡ false → (k.subsampling_x ≡ true) × (k.subsampling_y ≡ false)
    pub profile_2_subsampling_y : Other → profile ≡ 2 → k.subsampling_x ≡ false → k.subsampling_y ≡ false
    pub chroma_sample_position : k.subsampling_x && k.subsampling_y ≡ false → k.chroma_sample_position ≡ 0
    pub num_planes : k.num_planes ≡ plane_count k.mono_chrome

-- the whole record
pub record Sets (h : SequenceHeaderObu) : Type 0 where
  pub header : HeaderSets h.obu_header
  pub timing : TimingSets h
  pub points : PointsSets h
  pub frame_ids : FrameIdsSets h
  pub tools : ToolsSets h
  pub color : ColorSets h.seq_profile h.color_config
