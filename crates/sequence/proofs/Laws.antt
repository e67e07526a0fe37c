-- Every table keeps the laws.
use mathlib.Core.Path.{refl}
use mathlib.Core.Bool.{Bool}
use Prim.Native.Nat.{ℕ}
use borrow.Author.Tests.{lt-ltb}
use Rattle.bits.specs.Codec.{◌▷◌, f, checked}
use Rattle.bits.specs.Lawful.{strict, Lawful}
use Rattle.bits.specs.Elements.{frame_width_bits_minus_1, frame_height_bits_minus_1}
use Rattle.bits.specs.declared.answer.Refusal.TheVariants.{Inconsistent}
use Rattle.bits.proofs.Laws.{via_law, checked_law}
use Rattle.bits.proofs.Leaves.{codec_laws, array_law, f_fits}
use Rattle.bits.proofs.CodeLaws.{uvlc_law}
use Rattle.sequence.specs.Fields.{block_tools_in, block_tools_out, choice_in, choice_out, color_config_in, color_config_out, color_description_in, color_description_out, decoder_model_info_in, decoder_model_info_out, filter_tools_in, filter_tools_out, frame_ids_in, frame_ids_out, frame_size_in, frame_size_out, hint_bits_in, hint_bits_out, hint_tools_in, hint_tools_out, inter_tools_in, inter_tools_out, operating_parameters_info_in, operating_parameters_info_out, operating_point_in, operating_point_out, planes_in, planes_out, point_delay_in, point_delay_out, point_model_in, point_model_out, points_in, points_out, sampling_in, sampling_out, timing_in, timing_info_in, timing_info_out, timing_out}
use Rattle.sequence.specs.Optional.{f_if, flag_if}
use Rattle.sequence.specs.Timing.{ticks_per_picture, timing_info, decoder_model_info, timing_info_if, decoder_model_info_if, timing, reduced_timing}
use Rattle.sequence.specs.Points.{operating_parameters_info, point_model, point_delay, point_rest, operating_point, operating_points, points, reduced_delay, reduced_point_rest, reduced_point, reduced_points}
use Rattle.sequence.specs.Frame.{max_frame_size, frame_size_fields, frame_size, frame_ids}
use Rattle.sequence.specs.Tools.{block_tools, hint_tools, choice, no_choice, integer_mv, hint_bits, motion_tools, order_tools, full_tools, reduced_motion_tools, reduced_order_tools, reduced_tools, inter_tools, filter_tools}
use Rattle.sequence.specs.Color.{color_values, color_description, sampling, fixed_sampling, mono_planes, srgb_planes, other_planes, planes, color_rest, color_config}
use Rattle.sequence.specs.Sequence.{profile, full_general, reduced_general, general, color_and_grain, tools_and_color, body, sequence_header_obu}

pub f_if_law : (coded : Bool) (n : ℕ) (e : ℕ) (i : ℕ) (x : ℕ) → Lawful strict (f_if coded n e i x)
unfolding f_if
f_if_law coded n e i x = search codec_laws depth 14

pub flag_if_law : (coded : Bool) (e : ℕ) (i : ℕ) (x : Bool) → Lawful strict (flag_if coded e i x)
unfolding flag_if
flag_if_law coded e i x = search codec_laws depth 14

pub ticks_per_picture_law : (equal-picture-interval : Bool) → Lawful strict (ticks_per_picture equal-picture-interval)
unfolding ticks_per_picture
ticks_per_picture_law equal-picture-interval = search (codec_laws, uvlc_law) depth 14

pub timing_info_law : Lawful strict timing_info
unfolding timing_info
timing_info_law = via_law timing_info_out timing_info_in (search (codec_laws, ticks_per_picture_law) depth 14) (λ a. refl)

pub decoder_model_info_law : Lawful strict decoder_model_info
unfolding decoder_model_info
decoder_model_info_law = via_law decoder_model_info_out decoder_model_info_in (search codec_laws depth 14) (λ a. refl)

pub timing_info_if_law : (present : Bool) → Lawful strict (timing_info_if present)
unfolding timing_info_if
timing_info_if_law present = search (codec_laws, timing_info_law) depth 14

pub decoder_model_info_if_law : (present : Bool) → Lawful strict (decoder_model_info_if present)
unfolding decoder_model_info_if
decoder_model_info_if_law present = search (codec_laws, decoder_model_info_law) depth 14

pub timing_law : Lawful strict timing
unfolding timing
timing_law = via_law timing_out timing_in (search (codec_laws, flag_if_law, timing_info_if_law, decoder_model_info_if_law) depth 14) (λ a. refl)

pub reduced_timing_law : Lawful strict reduced_timing
unfolding reduced_timing
reduced_timing_law = via_law timing_out timing_in (search codec_laws depth 14) (λ a. refl)

pub operating_parameters_info_law : (n : ℕ) (i : ℕ) → Lawful strict (operating_parameters_info n i)
unfolding operating_parameters_info
operating_parameters_info_law n i = via_law operating_parameters_info_out operating_parameters_info_in (search codec_laws depth 14) (λ a. refl)

pub point_model_law : (has_model : Bool) (n : ℕ) (i : ℕ) → Lawful strict (point_model has_model n i)
unfolding point_model
point_model_law has_model n i = via_law point_model_out point_model_in (search (codec_laws, flag_if_law, operating_parameters_info_law) depth 14) (λ a. refl)

pub point_delay_law : (has-delay : Bool) (i : ℕ) → Lawful strict (point_delay has-delay i)
unfolding point_delay
point_delay_law has-delay i = via_law point_delay_out point_delay_in (search codec_laws depth 14) (λ a. refl)

pub point_rest_law : (level : ℕ) (has_model : Bool) (n : ℕ) (has-delay : Bool) (i : ℕ) → Lawful strict (point_rest level has_model n has-delay i)
unfolding point_rest
point_rest_law level has_model n has-delay i = search (codec_laws, f_if_law, point_model_law, point_delay_law) depth 14

pub operating_point_law : (has_model : Bool) (n : ℕ) (has-delay : Bool) (i : ℕ) → Lawful strict (operating_point has_model n has-delay i)
unfolding operating_point
operating_point_law has_model n has-delay i = via_law operating_point_out operating_point_in (search (codec_laws, point_rest_law) depth 14) (λ a. refl)

pub operating_points_law : (has_model : Bool) (k : ℕ) (has-delay : Bool) (n : ℕ) → Lawful strict (operating_points has_model k has-delay n)
unfolding operating_points
operating_points_law has_model k has-delay n = search (codec_laws, operating_point_law, array_law) depth 14

pub points_law : (has_model : Bool) (k : ℕ) → Lawful strict (points has_model k)
unfolding points
points_law has_model k = via_law points_out points_in (search (codec_laws, operating_points_law) depth 14) (λ a. refl)

pub reduced_delay_law : Lawful strict reduced_delay
unfolding reduced_delay
reduced_delay_law = via_law point_delay_out point_delay_in (search codec_laws depth 14) (λ a. refl)

pub reduced_point_rest_law : Lawful strict reduced_point_rest
unfolding reduced_point_rest
reduced_point_rest_law = search (codec_laws, point_model_law, reduced_delay_law) depth 14

pub reduced_point_law : Lawful strict reduced_point
unfolding reduced_point
reduced_point_law = via_law operating_point_out operating_point_in (search (codec_laws, reduced_point_rest_law) depth 14) (λ a. refl)

pub reduced_points_law : Lawful strict reduced_points
unfolding reduced_points
reduced_points_law = via_law points_out points_in (search (codec_laws, reduced_point_law, array_law) depth 14) (λ a. refl)

pub max_frame_size_law : (width-bits : ℕ) (height-bits : ℕ) → Lawful strict (max_frame_size width-bits height-bits)
unfolding max_frame_size
max_frame_size_law width-bits height-bits = search codec_laws depth 14

pub frame_size_fields_law : Lawful strict frame_size_fields
unfolding frame_size_fields
frame_size_fields_law = search (codec_laws, max_frame_size_law) depth 14

pub frame_size_law : Lawful strict frame_size
unfolding frame_size frame_size_fields max_frame_size ◌▷◌ f checked
frame_size_law =
    via_law frame_size_out frame_size_in
    (checked_law _ (Inconsistent frame_width_bits_minus_1 0)
    (checked_law _ (Inconsistent frame_height_bits_minus_1 0) frame_size_fields_law
    (λ p bs s. lt-ltb _ _ (f_fits _ _ _ _ _ s.3.3.3)) (λ p. refl))
    (λ p bs s. lt-ltb _ _ (f_fits _ _ _ _ _ s.1.3.3.2)) (λ p. refl))
    (λ a. refl)

pub frame_ids_law : (reduced : Bool) → Lawful strict (frame_ids reduced)
unfolding frame_ids
frame_ids_law reduced = via_law frame_ids_out frame_ids_in (search (codec_laws, flag_if_law) depth 14) (λ a. refl)

pub block_tools_law : Lawful strict block_tools
unfolding block_tools
block_tools_law = via_law block_tools_out block_tools_in (search codec_laws depth 14) (λ a. refl)

pub hint_tools_law : (order-hint : Bool) → Lawful strict (hint_tools order-hint)
unfolding hint_tools
hint_tools_law order-hint = via_law hint_tools_out hint_tools_in (search (codec_laws, flag_if_law) depth 14) (λ a. refl)

pub choice_law : (e : ℕ) → Lawful strict (choice e)
unfolding choice
choice_law e = via_law choice_out choice_in (search (codec_laws, f_if_law) depth 14) (λ a. refl)

pub no_choice_law : (e : ℕ) → Lawful strict (no_choice e)
unfolding no_choice
no_choice_law e = via_law choice_out choice_in (search codec_laws depth 14) (λ a. refl)

pub integer_mv_law : (screen : ℕ) → Lawful strict (integer_mv screen)
unfolding integer_mv
integer_mv_law screen = search (codec_laws, choice_law, no_choice_law) depth 14

pub hint_bits_law : (order-hint : Bool) → Lawful strict (hint_bits order-hint)
unfolding hint_bits
hint_bits_law order-hint = via_law hint_bits_out hint_bits_in (search codec_laws depth 14) (λ a. refl)

pub motion_tools_law : (order-hint : Bool) → Lawful strict (motion_tools order-hint)
unfolding motion_tools
motion_tools_law order-hint = search (codec_laws, choice_law, integer_mv_law, hint_bits_law) depth 14

pub order_tools_law : Lawful strict order_tools
unfolding order_tools
order_tools_law = search (codec_laws, hint_tools_law, motion_tools_law) depth 14

pub full_tools_law : Lawful strict full_tools
unfolding full_tools
full_tools_law = via_law inter_tools_out inter_tools_in (search (codec_laws, order_tools_law) depth 14) (λ a. refl)

pub reduced_motion_tools_law : Lawful strict reduced_motion_tools
unfolding reduced_motion_tools
reduced_motion_tools_law = search (codec_laws, no_choice_law, hint_bits_law) depth 14

pub reduced_order_tools_law : Lawful strict reduced_order_tools
unfolding reduced_order_tools
reduced_order_tools_law = search (codec_laws, hint_tools_law, reduced_motion_tools_law) depth 14

pub reduced_tools_law : Lawful strict reduced_tools
unfolding reduced_tools
reduced_tools_law = via_law inter_tools_out inter_tools_in (search (codec_laws, reduced_order_tools_law) depth 14) (λ a. refl)

pub inter_tools_law : (reduced : Bool) → Lawful strict (inter_tools reduced)
unfolding inter_tools
inter_tools_law reduced = search (codec_laws, full_tools_law, reduced_tools_law) depth 14

pub filter_tools_law : Lawful strict filter_tools
unfolding filter_tools
filter_tools_law = via_law filter_tools_out filter_tools_in (search codec_laws depth 14) (λ a. refl)

pub color_values_law : (present : Bool) → Lawful strict (color_values present)
unfolding color_values
color_values_law present = search (codec_laws, f_if_law) depth 14

pub color_description_law : Lawful strict color_description
unfolding color_description
color_description_law = via_law color_description_out color_description_in (search (codec_laws, color_values_law) depth 14) (λ a. refl)

pub sampling_law : (profile : ℕ) (twelve : Bool) → Lawful strict (sampling profile twelve)
unfolding sampling
sampling_law profile twelve = via_law sampling_out sampling_in (search (codec_laws, f_if_law, flag_if_law) depth 14) (λ a. refl)

pub fixed_sampling_law : (x : Bool) (y : Bool) → Lawful strict (fixed_sampling x y)
unfolding fixed_sampling
fixed_sampling_law x y = via_law sampling_out sampling_in (search codec_laws depth 14) (λ a. refl)

pub mono_planes_law : Lawful strict mono_planes
unfolding mono_planes
mono_planes_law = via_law planes_out planes_in (search (codec_laws, fixed_sampling_law) depth 14) (λ a. refl)

pub srgb_planes_law : Lawful strict srgb_planes
unfolding srgb_planes
srgb_planes_law = via_law planes_out planes_in (search (codec_laws, fixed_sampling_law) depth 14) (λ a. refl)

pub other_planes_law : (profile : ℕ) (twelve : Bool) → Lawful strict (other_planes profile twelve)
unfolding other_planes
other_planes_law profile twelve = via_law planes_out planes_in (search (codec_laws, sampling_law) depth 14) (λ a. refl)

pub planes_law : (profile : ℕ) (twelve : Bool) (mono : Bool) (is-srgb : Bool) → Lawful strict (planes profile twelve mono is-srgb)
unfolding planes
planes_law profile twelve mono is-srgb = search (codec_laws, mono_planes_law, srgb_planes_law, other_planes_law) depth 14

pub color_rest_law : (profile : ℕ) (twelve : Bool) (mono : Bool) → Lawful strict (color_rest profile twelve mono)
unfolding color_rest
color_rest_law profile twelve mono = search (codec_laws, color_description_law, planes_law) depth 14

pub color_config_law : (profile : ℕ) → Lawful strict (color_config profile)
unfolding color_config
color_config_law profile = via_law color_config_out color_config_in (search (codec_laws, flag_if_law, color_rest_law) depth 14) (λ a. refl)

pub profile_law : Lawful strict profile
unfolding profile
profile_law = search codec_laws depth 14

pub full_general_law : Lawful strict full_general
unfolding full_general
full_general_law = search (codec_laws, timing_law, points_law) depth 14

pub reduced_general_law : Lawful strict reduced_general
unfolding reduced_general
reduced_general_law = search (codec_laws, reduced_timing_law, reduced_points_law) depth 14

pub general_law : (reduced : Bool) → Lawful strict (general reduced)
unfolding general
general_law reduced = search (codec_laws, full_general_law, reduced_general_law) depth 14

pub color_and_grain_law : (profile : ℕ) → Lawful strict (color_and_grain profile)
unfolding color_and_grain
color_and_grain_law profile = search (codec_laws, color_config_law) depth 14

pub tools_and_color_law : (profile : ℕ) (reduced : Bool) → Lawful strict (tools_and_color profile reduced)
unfolding tools_and_color
tools_and_color_law profile reduced = search (codec_laws, block_tools_law, inter_tools_law, filter_tools_law, color_and_grain_law) depth 14

pub body_law : (profile : ℕ) (reduced : Bool) → Lawful strict (body profile reduced)
unfolding body
body_law profile reduced = search (codec_laws, frame_size_law, frame_ids_law, general_law, tools_and_color_law) depth 14

pub sequence_header_obu_law : Lawful strict sequence_header_obu
unfolding sequence_header_obu
sequence_header_obu_law = search (codec_laws, profile_law, body_law) depth 14
