-- A sequence header that is written has at most 3139 bits; crates/room has a record that takes them.
use mathlib.Core.Path.{◌≡◌, refl, sym, ◌∙◌, ap}
use mathlib.Core.Bool.{Bool, true, false}
use Prim.Native.Nat.{ℕ, ◌+◌, ◌*◌, ◌<◌, ◌≤◌}
use native.Mathlib.Omega.{arith}
use lib.ListN.{length, length-append}
use lib.Dec.{lit≤}
use Rattle.bits.specs.Bits.{Bits}
use Rattle.bits.specs.Walk.{Walk, ◌⊕◌, Out, wrote, run, bound}
use Rattle.bits.specs.Codec.{◌▷◌, choose, select, via, allowed, within, checked, f, flag, absent, inferred, inferred_flag, array}
use Rattle.bits.specs.Codes.{uvlc}
use Rattle.bits.proofs.Laws.{join_inv}
use Rattle.bits.proofs.Leaves.{f_fits}
use Rattle.bits.proofs.Widths.{up_to_most}
use Rattle.bits.proofs.Lengths.{bounded}
use Rattle.bits.proofs.Counting.{Few, few_by, few_then, total, array-few, unshort}
use Rattle.sequence.specs.declared.record.DecoderModelInfo.{DecoderModelInfo}
use Rattle.sequence.specs.declared.record.OperatingPoint.{OperatingPoint}
use Rattle.sequence.specs.declared.group.Timing.{Timing}
use Rattle.sequence.specs.declared.group.Points.{Points}
use Rattle.sequence.specs.declared.group.FrameSize.{FrameSize}
use Rattle.sequence.specs.declared.group.FrameIds.{FrameIds}
use Rattle.sequence.specs.Fields.{GeneralTable, ToolsAndColorTable, BodyTable, SequenceTable}
use Rattle.sequence.specs.Optional.{f_if, flag_if}
use Rattle.sequence.specs.Timing.{ticks_per_picture, timing_info, decoder_model_info, timing_info_if, decoder_model_info_if, timing, reduced_timing}
use Rattle.sequence.specs.Points.{operating_parameters_info, point_model, point_delay, point_rest, operating_point, no_point, operating_points, points, reduced_delay, reduced_point_rest, reduced_point, reduced_points}
use Rattle.sequence.specs.Frame.{max_frame_size, frame_size_fields, frame_size, frame_ids}
use Rattle.sequence.specs.Tools.{block_tools, hint_tools, choice, no_choice, integer_mv, hint_bits, motion_tools, order_tools, full_tools, reduced_motion_tools, reduced_order_tools, reduced_tools, inter_tools, filter_tools}
use Rattle.sequence.specs.Color.{color_values, color_description, sampling, fixed_sampling, mono_planes, srgb_planes, other_planes, planes, color_rest, color_config}
use Rattle.sequence.specs.Sequence.{profile, full_general, reduced_general, general, color_and_grain, tools_and_color, body, sequence_header_obu}
use Rattle.sequence.proofs.Laws.{timing_law, frame_size_law}

-- what a walk wrote, and what two did
part : (w : Walk) {x : Bits} → run w ≡ wrote x → length x ≤ bound w
part w e = omega (arith, bounded w, ap (λ (o : Out). length o.bits) e)

two : (v w : Walk) {x : Bits} (n m : ℕ) → run (v ⊕ w) ≡ wrote x → ((y : Bits) → run v ≡ wrote y → length y ≤ n)
    → ((y : Bits) → run v ≡ wrote y → (z : Bits) → run w ≡ wrote z → length z ≤ m) → length x ≤ n + m
unfolding run
two v w {x} n m e h k =
    let j = join_inv (run v) (run w) x e in
    omega (arith, h j.0 j.2, k j.0 j.2 j.1 j.3, ap length (sym j.4) ∙ length-append j.0 j.1)

-- the operating points, with delays in n bits
point-bound : (has_model : Bool) (n : ℕ) (has-delay : Bool) (i : ℕ) (p : OperatingPoint) → bound ((operating_point has_model n has-delay i).enc p) ≤ 25 + 2 * n
unfolding operating_point point_rest point_model operating_parameters_info point_delay f_if flag_if via ◌▷◌ choose select absent f flag inferred inferred_flag bound
point-bound has_model n has-delay i p = omega arith

points-few : (has_model : Bool) (n : ℕ) (v : Points) → Few (6 + total (λ _. 25 + 2 * n) 32 0) ((points has_model n).enc v)
unfolding points operating_points via ◌▷◌ allowed f flag bound
points-few has_model n v =
    let has-delay = v.initial_display_delay_present_flag in
    let each = array-few no_point (operating_point has_model n has-delay) (λ _. 25 + 2 * n) (λ i p. few_by (point-bound has_model n has-delay i p)) 32 0 (v.operating_points_cnt_minus_1 + 1) v.operating_points in
    record { most = λ bs e. omega (arith, (few_then {n = 1} (few_by (lit≤ tt)) (few_then {n = 5} (few_by (lit≤ tt)) each)).most bs e) }

one_bound : (p : OperatingPoint) → bound (reduced_point.enc p) ≤ 7
unfolding reduced_point reduced_point_rest point_model operating_parameters_info reduced_delay flag_if via ◌▷◌ choose select absent f flag inferred inferred_flag bound
one_bound p = lit≤ tt

reduced_few : (v : GeneralTable) → Few 224 (reduced_general.enc v)
unfolding reduced_general reduced_timing reduced_points via ◌▷◌ inferred_flag inferred absent bound
reduced_few v =
    let each = array-few no_point (λ _. reduced_point) (λ _. 7) (λ i p. few_by (one_bound p)) 32 0 1 v.1.operating_points in
    few_then {n = 0} (few_by (lit≤ tt)) (few_then {n = 0} (few_by (lit≤ tt)) (few_then {n = 0} (few_by (lit≤ tt)) each))

-- the timing, and the width of the delays where a model is written
timing-bound : (t : Timing) → bound (timing.enc t) ≤ 177
unfolding timing timing_info_if timing_info ticks_per_picture uvlc flag_if decoder_model_info_if decoder_model_info via ◌▷◌ choose select absent f flag inferred_flag bound
timing-bound t = omega (arith, up_to_most 32 (t.timing_info.num_ticks_per_picture_minus_1 + 1))

model_width : (present : Bool) (d : DecoderModelInfo) (x : Bits) → (decoder_model_info_if present).spells d x → ((decoder_model_info_if present).coded d).buffer_delay_length_minus_1 < 32
unfolding decoder_model_info_if choose absent decoder_model_info via ◌▷◌ f
model_width true d x s = f_fits 5 14 0 _ _ s.2
model_width false d x s = omega arith

pub timing_width : (t : Timing) (x : Bits) → timing.spells t x → (timing.coded t).decoder_model_info.buffer_delay_length_minus_1 < 32
unfolding timing via ◌▷◌
timing_width t x s = model_width _ _ _ s.3.3.3

full_few : (v : GeneralTable) (x : Bits) → run (full_general.enc v) ≡ wrote x → length x ≤ 3031
unfolding full_general ◌▷◌
full_few v x e =
    let t = timing.coded v.0 in
    omega (
      arith,
      two (timing.enc v.0) _ 177 2854 e
          (λ y q. omega (arith, part (timing.enc v.0) q, timing-bound v.0))
          (λ y q z r. omega (arith, (points-few t.decoder_model_info_present_flag (t.decoder_model_info.buffer_delay_length_minus_1 + 1) v.1).most z r, timing_width v.0 y (timing_law.own v.0 y q))),
    )

general-few : (reduced : Bool) (v : GeneralTable) (x : Bits) → run ((general reduced).enc v) ≡ wrote x → length x ≤ 3031
unfolding general choose run
general-few true v x e = omega (arith, (reduced_few v).most x e)
general-few false v x e = full_few v x e

-- the frame
size-bound : (v : FrameSize) → bound (frame_size.enc v) ≤ 10 + v.frame_width_bits_minus_1 + v.frame_height_bits_minus_1
unfolding frame_size checked frame_size_fields max_frame_size via ◌▷◌ f bound
size-bound v = omega arith

size_fits : (v : FrameSize) (x : Bits) → frame_size.spells v x → (v.frame_width_bits_minus_1 < 16) × (v.frame_height_bits_minus_1 < 16)
unfolding frame_size checked frame_size_fields via ◌▷◌
size_fits v x s = (f_fits 4 21 0 _ _ s.1.1.2, f_fits 4 22 0 _ _ s.1.1.3.2)

size_few : (v : FrameSize) (x : Bits) → run (frame_size.enc v) ≡ wrote x → length x ≤ 40
size_few v x e = omega (arith, part (frame_size.enc v) e, size-bound v, size_fits v x (frame_size_law.own v x e))

ids_bound : (reduced : Bool) (v : FrameIds) → bound ((frame_ids reduced).enc v) ≤ 8
unfolding frame_ids flag_if via ◌▷◌ choose select absent f flag inferred_flag bound
ids_bound reduced v = lit≤ tt

-- the tools and the colour
tools_and_color-bound : (seq_profile : ℕ) (reduced : Bool) (v : ToolsAndColorTable) → bound ((tools_and_color seq_profile reduced).enc v) ≤ 55
unfolding tools_and_color block_tools inter_tools reduced_tools reduced_order_tools reduced_motion_tools full_tools order_tools motion_tools hint_tools choice no_choice integer_mv hint_bits filter_tools color_and_grain color_config color_rest color_description color_values planes mono_planes srgb_planes other_planes sampling fixed_sampling f_if flag_if via ◌▷◌ choose select absent f flag inferred inferred_flag bound
tools_and_color-bound seq_profile reduced v = lit≤ tt

body-few : (seq_profile : ℕ) (reduced : Bool) (v : BodyTable) (x : Bits) → run ((body seq_profile reduced).enc v) ≡ wrote x → length x ≤ 3134
unfolding body ◌▷◌
body-few seq_profile reduced v x e =
    omega (
      arith,
      two ((general reduced).enc v.0) _ 3031 103 e
          (λ y q. general-few reduced v.0 y q)
          (λ y q z u. two (frame_size.enc v.1.0) _ 40 63 u
          (λ y q. size_few v.1.0 y q)
          (λ y q z u. two ((frame_ids reduced).enc v.1.1.0) ((tools_and_color seq_profile reduced).enc v.1.1.1) 8 55 u
          (λ y q. omega (arith, part _ q, ids_bound reduced v.1.1.0))
          (λ y q z u. omega (arith, part _ u, tools_and_color-bound seq_profile reduced v.1.1.1)))),
    )

table_few : (v : SequenceTable) (x : Bits) → run (sequence_header_obu.enc v) ≡ wrote x → length x ≤ 3139
unfolding sequence_header_obu profile within f ◌▷◌ flag bound
table_few v x e =
    omega (
      arith,
      two _ _ 3 3136 e
          (λ y q. omega (arith, part _ q))
          (λ y q z u. two _ _ 1 3135 u
          (λ y q. omega (arith, part _ q))
          (λ y q z u. two _ _ 1 3134 u
          (λ y q. omega (arith, part _ q))
          (λ y q z u. body-few _ _ _ z u))),
    )

pub few : (v : SequenceTable) → Few 3139 (sequence_header_obu.enc v)
few v = record { most = λ bs e. table_few v bs e }

-- none of its refusals is 3
pub own : (v : SequenceTable) → unshort (sequence_header_obu.enc v) ≡ true
unfolding unshort array via ◌▷◌ choose absent operating_point point_rest point_model operating_parameters_info point_delay f_if flag_if select f flag inferred inferred_flag points operating_points allowed reduced_point reduced_point_rest reduced_delay reduced_general reduced_timing reduced_points timing timing_info_if timing_info ticks_per_picture uvlc decoder_model_info_if decoder_model_info full_general general frame_size checked frame_size_fields max_frame_size frame_ids tools_and_color block_tools inter_tools reduced_tools reduced_order_tools reduced_motion_tools full_tools order_tools motion_tools hint_tools choice no_choice integer_mv hint_bits filter_tools color_and_grain color_config color_rest color_description color_values planes mono_planes srgb_planes other_planes sampling fixed_sampling body sequence_header_obu profile within
own v = refl
