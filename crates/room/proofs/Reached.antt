-- The longest records: the walk of each comes to its end, and takes as many bits as is said.
use mathlib.Core.Path.{◌≡◌, refl, sym, ◌∙◌}
use mathlib.Core.Bool.{true}
use Prim.Native.Nat.{ℕ, zero, suc, ◌+◌, ◌-◌, ◌*◌, ◌^◌, ◌/◌, ◌%◌, ◌≤◌, ◌<◌}
use native.Mathlib.Omega.{arith}
use borrow.Author.Tests.{lt-ltb}
use lib.Pow.{pow_mono}
use Rattle.bits.specs.Widths.{width_up_to}
use Rattle.bits.specs.Walk.{Walk, join, run, count}
use Rattle.bits.specs.Codec.{Codec, ◌▷◌, choose, select, via, allowed, within, checked, merged, f, flag, zeros, absent, inferred, inferred_flag, array}
use Rattle.bits.specs.Codes.{uvlc, su, leb128, leb_step}
use Rattle.bits.proofs.Counting.{counted, Takes, takes}
use Rattle.obu.specs.Header.{expected_type, obu_extension_header, header_end, header_table, obu_header}
use Rattle.obu.specs.Framing.{obu_size}
use Rattle.obu.specs.Delimiter.{temporal_delimiter}
use Rattle.parts.specs.Codes.{inferred_signed, natural, clip, trimmed, zip}
use Rattle.sequence.specs.Fields.{sequence_out}
use Rattle.sequence.specs.Optional.{f_if, flag_if}
use Rattle.sequence.specs.Timing.{ticks_per_picture, timing_info, decoder_model_info, timing_info_if, decoder_model_info_if, timing}
use Rattle.sequence.specs.Points.{operating_parameters_info, point_model, point_delay, point_rest, operating_point, no_point, operating_points, points}
use Rattle.sequence.specs.Frame.{max_frame_size, frame_size_fields, frame_size, frame_ids}
use Rattle.sequence.specs.Tools.{block_tools, hint_tools, choice, integer_mv, hint_bits, motion_tools, order_tools, full_tools, inter_tools, filter_tools}
use Rattle.sequence.specs.Color.{color_values, color_description, sampling, other_planes, planes, color_rest, color_config}
use Rattle.sequence.specs.Sequence.{profile, full_general, general, color_and_grain, tools_and_color, body, sequence_header_obu}
use Rattle.quantization.specs.Quantization.{read_delta_q, diff_uv, v_coded, v_inferred, v_deltas, uv_deltas, no_uv_deltas, three_planes, one_plane, chroma, v_matrix, matrices, qmatrix, quantization_table, quantization_params}
use Rattle.segmentation.specs.Segmentation.{signed_value, unsigned_value, feature_value, feature, features, no_flags, no_data, no_features, features_if, temporal_update, coded_updates, inferred_updates, with_reference, without_reference, enabled_params, segmentation_table, segmentation_params}
use Rattle.loop_filter.specs.LoopFilter.{chroma_levels, levels, delta, ref_deltas, mode_deltas, deltas, delta_update, rest, filter_on, default_refs, default_modes, no_levels, no_rest, filter_off, loop_filter_table, loop_filter_params}
use Rattle.cdef.specs.Cdef.{damping, secondary, strength, strengths, each_strength, on_table, no_strength, no_place, no_strengths, off_table, cdef_on, cdef_off, cdef_params}
use Rattle.restoration.specs.Restoration.{large_shift, small_shift, unit_shift, uv_shift, shifts, uses, kinds, three_planes as three-kinds, one_kind, one_plane as one-kind-alone, no_kinds, no_planes, lr_table, lr_params}
use Rattle.room.specs.Longest.{layers, longest_point, listed, longest_points, extended, longest_header, temporal_delimiter_max, quantization_max_bits, quantization, longest_quantization, segmentation_max_bits, segmentation, longest_segmentation, loop_filter_max_bits, loop_filter, longest_loop_filter, cdef_max_bits, cdef, longest_cdef, lr_max_bits, lr, longest_lr}

-- An array that is full, of items that each take k bits
takes_count : {n : ℕ} {w : Walk} → Takes n w → count w ≡ n
takes_count {w = w} T = sym (counted w T.ends) ∙ T.bits

array_takes : {A : Type 0} (z : A) (item : ℕ → Codec A) (g : ℕ → A) (k : ℕ) → ((i : ℕ) → Takes k ((item i).enc (g i))) → (m i n : ℕ) → i + m ≤ n → Takes (m * k) ((array z item m i n).enc (listed g m i))
unfolding array via ◌▷◌ choose absent run join count
array_takes z item g k T zero i n h = takes refl (omega arith)
array_takes z item g k T (suc m) i n h =
    let rest = array_takes z item g k T m (suc i) n (omega arith) in
    let coded = lt-ltb i n (omega arith) in
    takes (rw (coded, (T i).ends) rest.ends) (rw (coded, takes_count (T i), takes_count rest) (omega arith))

-- A point
layers_fit : (i : ℕ) → layers i < 2 ^ 12
layers_fit i =
    let s : 2 ^ (4 - i / 8) ≤ 2 ^ 4 = pow_mono {j = 4} (omega arith) in
    let t : 2 ^ (8 - i % 8) ≤ 2 ^ 8 = pow_mono {j = 8} (omega arith) in
    omega arith

point_takes : (i : ℕ) → Takes 89 ((operating_point true 32 true i).enc (longest_point i))
unfolding operating_point point_rest point_model operating_parameters_info point_delay f_if flag_if via ◌▷◌ choose select f flag run join count
point_takes i = takes (rw (lt-ltb (layers i) (2 ^ 12) (layers_fit i))) refl

-- and all of them
points-take : Takes 2848 ((operating_points true 32 true 32).enc longest_points)
unfolding operating_points longest_points
points-take = array_takes no_point (operating_point true 32 true) longest_point 89 point_takes 32 0 32 (omega arith)

-- The payload, its size in two bytes, and the header around them
pub payload_takes : Takes 3139 (sequence_header_obu.enc (sequence_out longest_header))
unfolding run join count ◌▷◌ choose select via allowed within checked f flag inferred uvlc width_up_to f_if flag_if ticks_per_picture timing_info decoder_model_info timing_info_if decoder_model_info_if timing points max_frame_size frame_size_fields frame_size frame_ids block_tools hint_tools choice integer_mv hint_bits motion_tools order_tools full_tools inter_tools filter_tools color_values color_description sampling other_planes planes color_rest color_config profile full_general general color_and_grain tools_and_color body sequence_header_obu
payload_takes = takes (rw points-take.ends) (rw (takes_count points-take))

pub size_takes : Takes 16 ((leb128 8).enc 393)
unfolding run join count leb128 merged leb_step ◌▷◌ choose f absent
size_takes = takes refl refl

pub header_takes : Takes 16 ((obu_header 1).enc (extended 1))
unfolding run join count obu_header header_table header_end expected_type obu_extension_header ◌▷◌ choose via allowed f flag zeros
header_takes = takes refl refl

-- The temporal delimiter
pub delimiter_takes : Takes (temporal_delimiter_max * 8) (temporal_delimiter (extended 2))
unfolding run join count temporal_delimiter obu_header header_table header_end expected_type obu_extension_header obu_size leb128 merged leb_step ◌▷◌ choose via allowed f flag zeros absent
delimiter_takes = takes refl refl

-- The parts
pub quantization_takes : Takes quantization_max_bits (quantization longest_quantization)
unfolding run join count read_delta_q diff_uv v_coded v_inferred v_deltas uv_deltas no_uv_deltas three_planes one_plane chroma v_matrix matrices qmatrix quantization_table quantization_params inferred_signed su ◌▷◌ choose select via merged f flag absent inferred inferred_flag
quantization_takes = takes refl refl

pub segmentation_takes : Takes segmentation_max_bits (segmentation longest_segmentation)
unfolding run join count signed_value unsigned_value feature_value feature features no_flags no_data no_features features_if temporal_update coded_updates inferred_updates with_reference without_reference enabled_params segmentation_table segmentation_params inferred_signed natural clip trimmed zip su ◌▷◌ choose via array f flag absent inferred_flag
segmentation_takes = takes refl refl

pub loop_filter_takes : Takes loop_filter_max_bits (loop_filter longest_loop_filter)
unfolding run join count chroma_levels levels delta ref_deltas mode_deltas deltas delta_update rest filter_on default_refs default_modes no_levels no_rest filter_off loop_filter_table loop_filter_params inferred_signed su ◌▷◌ choose merged via array f flag absent inferred
loop_filter_takes = takes refl refl

pub cdef_takes : Takes cdef_max_bits (cdef longest_cdef)
unfolding run join count zip damping secondary strength strengths each_strength on_table no_strength no_place no_strengths off_table cdef_on cdef_off cdef_params ◌▷◌ choose checked via array f absent inferred
cdef_takes = takes refl refl

pub lr_takes : Takes lr_max_bits (lr longest_lr)
unfolding run join count large_shift small_shift unit_shift uv_shift shifts uses kinds three-kinds one_kind one-kind-alone no_kinds no_planes lr_table lr_params ◌▷◌ choose checked merged via f flag absent inferred inferred_flag
lr_takes = takes refl refl
