-- The elements that a refusal names: the standard's name of each, and where an index stands beside it.
use Rattle.std.specs.Prelude.{Bool, ◌&&◌, ◌||◌, List, [], ◌∷◌, ◌++◌, ℕ, eqb}
use Rattle.std.specs.List.{list_any}
use Prim.Native.String.{String}
use Rattle.bits.specs.Elements.{operating_point_idc, seq_level_idx, decoder_model_present_for_this_op, initial_display_delay_present_for_this_op, seq_tier, decoder_buffer_delay, encoder_buffer_delay, initial_display_delay_minus_1, feature_enabled, feature_data, loop_filter_level, loop_filter_ref_deltas, loop_filter_mode_deltas, cdef_y_pri_strength, cdef_y_sec_strength, cdef_uv_pri_strength, cdef_uv_sec_strength, frame_restoration_type}
use Rattle.words.specs.Text.{codes, find, decimal}

unfoldable pub names : List (ℕ × String)
names =
    (1, "obu_type") ∷
    (2, "temporal_id") ∷
    (3, "spatial_id") ∷
    (4, "seq_profile") ∷
    (5, "reduced_still_picture_header") ∷
    (6, "initial_display_delay_present_flag") ∷
    (7, "operating_points_cnt_minus_1") ∷
    (8, "operating_point_idc") ∷
    (9, "seq_level_idx") ∷
    (10, "decoder_model_present_for_this_op") ∷
    (11, "initial_display_delay_present_for_this_op") ∷
    (12, "num_ticks_per_picture_minus_1") ∷
    (13, "decoder_model_info_present_flag") ∷
    (14, "buffer_delay_length_minus_1") ∷
    (15, "buffer_removal_time_length_minus_1") ∷
    (16, "frame_presentation_time_length_minus_1") ∷
    (17, "seq_tier") ∷
    (18, "decoder_buffer_delay") ∷
    (19, "encoder_buffer_delay") ∷
    (20, "initial_display_delay_minus_1") ∷
    (21, "frame_width_bits_minus_1") ∷
    (22, "frame_height_bits_minus_1") ∷
    (23, "frame_id_numbers_present_flag") ∷
    (24, "delta_frame_id_length_minus_2") ∷
    (25, "additional_frame_id_length_minus_1") ∷
    (26, "enable_interintra_compound") ∷
    (27, "enable_masked_compound") ∷
    (28, "enable_warped_motion") ∷
    (29, "enable_dual_filter") ∷
    (30, "enable_order_hint") ∷
    (31, "enable_jnt_comp") ∷
    (32, "enable_ref_frame_mvs") ∷
    (33, "seq_force_screen_content_tools") ∷
    (34, "seq_force_integer_mv") ∷
    (35, "order_hint_bits_minus_1") ∷
    (36, "OrderHintBits") ∷
    (37, "twelve_bit") ∷
    (38, "mono_chrome") ∷
    (39, "color_primaries") ∷
    (40, "transfer_characteristics") ∷
    (41, "matrix_coefficients") ∷
    (42, "color_range") ∷
    (43, "subsampling_x") ∷
    (44, "subsampling_y") ∷
    (45, "chroma_sample_position") ∷
    (46, "separate_uv_delta_q") ∷
    (47, "NumPlanes") ∷
    (51, "base_q_idx") ∷
    (52, "delta_q_y_dc") ∷
    (53, "diff_uv_delta") ∷
    (54, "delta_q_u_dc") ∷
    (55, "delta_q_u_ac") ∷
    (56, "delta_q_v_dc") ∷
    (57, "delta_q_v_ac") ∷
    (58, "qm_y") ∷
    (59, "qm_u") ∷
    (60, "qm_v") ∷
    (61, "segmentation_update_map") ∷
    (62, "segmentation_temporal_update") ∷
    (63, "segmentation_update_data") ∷
    (64, "feature_enabled") ∷
    (65, "feature_data") ∷
    (66, "loop_filter_level") ∷
    (67, "loop_filter_ref_deltas") ∷
    (68, "loop_filter_mode_deltas") ∷
    (69, "loop_filter_sharpness") ∷
    (70, "cdef_bits") ∷
    (71, "cdef_y_pri_strength") ∷
    (72, "cdef_y_sec_strength") ∷
    (73, "cdef_uv_pri_strength") ∷
    (74, "cdef_uv_sec_strength") ∷
    (75, "cdef_damping") ∷
    (76, "frame_restoration_type") ∷
    (77, "uses_lr") ∷
    (78, "uses_chroma_lr") ∷
    (79, "lr_unit_shift") ∷
    (80, "lr_uv_shift") ∷
    []

unfoldable pub element : ℕ → List ℕ
element e = find e names (codes "element " ++ decimal e)

-- The elements that repeat. Where refusal 1 compares all places of one at once, its index tells nothing.
--                                                                       refusal 1    refusal 2
--   single: of an operating point, and the strengths of CDEF            shown        shown
--   compared: features, levels, deltas and the kinds of restoration                  shown
unfoldable pub single : List ℕ
single =
    operating_point_idc ∷ seq_level_idx ∷ decoder_model_present_for_this_op ∷ initial_display_delay_present_for_this_op ∷
    seq_tier ∷ decoder_buffer_delay ∷ encoder_buffer_delay ∷ initial_display_delay_minus_1 ∷
    cdef_y_pri_strength ∷ cdef_y_sec_strength ∷ cdef_uv_pri_strength ∷ cdef_uv_sec_strength ∷
    []

unfoldable pub compared : List ℕ
compared =
    feature_enabled ∷ feature_data ∷ loop_filter_level ∷ loop_filter_ref_deltas ∷ loop_filter_mode_deltas ∷ frame_restoration_type ∷
    []

abbrev pub among : List ℕ → ℕ → Bool
among ks e = list_any (λ k. eqb e k) ks

unfoldable pub has_index : ℕ → ℕ → Bool
has_index number e = among single e || (eqb number 2 && among compared e)
