-- 5.5.5 operating_parameters_info, and the operating points of 5.5.1.
use Rattle.std.specs.Prelude.{List, Bool, false, ℕ, ◌+◌, ltb, leb}
use Rattle.bits.specs.Codec.{Codec, f, flag, absent, inferred, inferred_flag, allowed, choose, via, array, ◌▷◌}
use Rattle.bits.specs.declared.answer.Refusal.TheVariants.{Inconsistent}
use Rattle.bits.specs.Elements.{initial_display_delay_present_flag, operating_points_cnt_minus_1, operating_point_idc, seq_level_idx, decoder_model_present_for_this_op, initial_display_delay_present_for_this_op, seq_tier, decoder_buffer_delay, encoder_buffer_delay, initial_display_delay_minus_1}
use Rattle.sequence.specs.declared.record.OperatingPoint.{OperatingPoint}
use Rattle.sequence.specs.declared.group.OperatingParametersInfo.{OperatingParametersInfo}
use Rattle.sequence.specs.declared.group.PointModel.{PointModel}
use Rattle.sequence.specs.declared.group.PointDelay.{PointDelay}
use Rattle.sequence.specs.declared.group.Points.{Points}
use Rattle.sequence.specs.Fields.{operating_parameters_info_out, operating_parameters_info_in, point_model_out, point_model_in, point_delay_out, point_delay_in, PointRestTable, operating_point_out, operating_point_in, points_out, points_in}
use Rattle.sequence.specs.Optional.{f_if, flag_if}

-- 5.5.5, at point i, with delays of a width: decoder_buffer_delay, encoder_buffer_delay, low_delay_mode_flag
unfoldable pub operating_parameters_info : ℕ → ℕ → Codec OperatingParametersInfo
operating_parameters_info width i = via operating_parameters_info_out operating_parameters_info_in (
    f width decoder_buffer_delay i ▷ λ _.
    f width encoder_buffer_delay i ▷ λ _.
    flag)

-- what point i says of its decoder model, if the header has one, and of its display delay, if the header has those
abbrev pub no_operating_parameters_info : OperatingParametersInfo
no_operating_parameters_info = operating_parameters_info_in (0, (0, false))

unfoldable pub point_model : Bool → ℕ → ℕ → Codec PointModel
point_model has_model width i = via point_model_out point_model_in (
    flag_if has_model decoder_model_present_for_this_op i false ▷ λ present.
    choose present (operating_parameters_info width i) (absent no_operating_parameters_info))

unfoldable pub point_delay : Bool → ℕ → Codec PointDelay
point_delay has-delay i = via point_delay_out point_delay_in (
    choose has-delay
    (flag ▷ λ present. choose present (f 4 initial_display_delay_minus_1 i) (absent 0))
    (absent (false, 0)))

-- point i, which goes by these two flags of the header and, where it has a model, by the width of its delays
unfoldable pub point_rest : ℕ → Bool → ℕ → Bool → ℕ → Codec PointRestTable
point_rest level has_model width has-delay i =
    f_if (ltb 7 level) 1 seq_tier i 0 ▷ λ _.
    point_model has_model width i ▷ λ _.
    point_delay has-delay i

-- Difference (docs/DIFFERENCES.md, row 32): players refuse an idc other than 0 that has no temporal or no spatial layer. As in the crate, that is not
-- checked.
unfoldable pub operating_point : Bool → ℕ → Bool → ℕ → Codec OperatingPoint
operating_point has_model width has-delay i = via operating_point_out operating_point_in (
    f 12 operating_point_idc i ▷ λ _.
    f 5 seq_level_idx i ▷ λ level.
    point_rest level has_model width has-delay i)

-- the points that are coded, the first `count` of 32
abbrev pub no_point : OperatingPoint
no_point = operating_point_in (0, (0, (0, (point_model_in (false, no_operating_parameters_info), point_delay_in (false, 0)))))

unfoldable pub operating_points : Bool → ℕ → Bool → ℕ → Codec (List OperatingPoint)
operating_points has_model width has-delay count = array no_point (operating_point has_model width has-delay) 32 0 count

-- initial_display_delay_present_flag, operating_points_cnt_minus_1, and so many points
unfoldable pub points : Bool → ℕ → Codec Points
points has_model width = via points_out points_in (
    flag ▷ λ has-delay.
    allowed (λ count. leb count 31) (Inconsistent operating_points_cnt_minus_1 0) (f 5 operating_points_cnt_minus_1 0) ▷ λ count.
    operating_points has_model width has-delay (count + 1))

-- with the reduced header: one point, of which only the level is coded, and the tier not looked at
unfoldable pub reduced_delay : Codec PointDelay
reduced_delay = via point_delay_out point_delay_in (
    inferred_flag initial_display_delay_present_for_this_op 0 false ▷ λ _.
    absent 0)

unfoldable pub reduced_point_rest : Codec PointRestTable
reduced_point_rest =
    absent 0 ▷ λ seq_tier.
    point_model false 0 0 ▷ λ _.
    reduced_delay

unfoldable pub reduced_point : Codec OperatingPoint
reduced_point = via operating_point_out operating_point_in (
    inferred operating_point_idc 0 0 ▷ λ _.
    f 5 seq_level_idx 0 ▷ λ _.
    reduced_point_rest)

unfoldable pub reduced_points : Codec Points
reduced_points = via points_out points_in (
    inferred_flag initial_display_delay_present_flag 0 false ▷ λ _.
    inferred operating_points_cnt_minus_1 0 0 ▷ λ _.
    array no_point (λ _. reduced_point) 32 0 1)
