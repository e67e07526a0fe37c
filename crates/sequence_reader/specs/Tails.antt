-- The rest of a table that a function of its own reads. Only contracts of functions inside cite this.
use Rattle.std.specs.Prelude.{Bool, true, false, cond, List, ℕ, ◌+◌}
use Rattle.bits.specs.Codec.{Codec, f, inferred, array, ◌▷◌}
use Rattle.bits.specs.Elements.{decoder_model_info_present_flag, buffer_removal_time_length_minus_1, frame_presentation_time_length_minus_1, num_planes}
use Rattle.fill.specs.Rows.{Row, word, ◌&◌}
use Rattle.sequence.specs.declared.record.DecoderModelInfo.{DecoderModelInfo}
use Rattle.sequence.specs.declared.record.OperatingPoint.{OperatingPoint}
use Rattle.sequence.specs.declared.group.Points.{Points}
use Rattle.sequence.specs.declared.group.Planes.{Planes}
use Rattle.sequence.specs.Optional.{flag_if}
use Rattle.sequence.specs.Timing.{decoder_model_info, decoder_model_info_if}
use Rattle.sequence.specs.Points.{operating_point, reduced_point, no_point, points}
use Rattle.sequence.specs.Color.{plane_count, planes}

-- a point of either header, and the points that are coded, the first `count` of 32
unfoldable pub any_point : Bool → Bool → ℕ → Bool → ℕ → Codec OperatingPoint
any_point reduced has_model width has-delay i = cond reduced reduced_point (operating_point has_model width has-delay i)

unfoldable pub point_list : Bool → Bool → ℕ → Bool → ℕ → Codec (List OperatingPoint)
point_list reduced has_model width has-delay count = array no_point (any_point reduced has_model width has-delay) 32 0 count

-- the decoder model and the points behind it: as its flag says, with the flag, and where there is one; the model behind its first field
unfoldable pub model_points : Bool → Codec (DecoderModelInfo × Points)
model_points has_model = decoder_model_info_if has_model ▷ λ d. points has_model (d.buffer_delay_length_minus_1 + 1)

unfoldable pub model_if : Bool → Codec (Bool × (DecoderModelInfo × Points))
model_if timed = flag_if timed decoder_model_info_present_flag 0 false ▷ λ has_model. model_points has_model

unfoldable pub with_model : Codec (DecoderModelInfo × Points)
with_model = decoder_model_info ▷ λ d. points true (d.buffer_delay_length_minus_1 + 1)

unfoldable pub model_rest : Codec (ℕ × (ℕ × ℕ))
model_rest =
    f 32 0 0 ▷ λ _.
    f 5 buffer_removal_time_length_minus_1 0 ▷ λ _.
    f 5 frame_presentation_time_length_minus_1 0

abbrev pub model_rest_row : Row (ℕ × (ℕ × ℕ))
model_rest_row = word & word & word

-- the planes, and how many they are
unfoldable pub counted_planes : ℕ → Bool → Bool → Bool → Codec (Planes × ℕ)
counted_planes profile twelve mono is-srgb = planes profile twelve mono is-srgb ▷ λ _. inferred num_planes 0 (plane_count mono)
