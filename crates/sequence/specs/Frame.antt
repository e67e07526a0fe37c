-- The frame's size and its identifiers, of 5.5.1.
use Rattle.std.specs.Prelude.{Bool, false, not, ℕ, ◌+◌, ◌^◌, ltb}
use Rattle.bits.specs.Codec.{Codec, f, absent, checked, choose, via, ◌▷◌}
use Rattle.bits.specs.declared.answer.Refusal.TheVariants.{Inconsistent}
use Rattle.bits.specs.Elements.{frame_width_bits_minus_1, frame_height_bits_minus_1, frame_id_numbers_present_flag, delta_frame_id_length_minus_2, additional_frame_id_length_minus_1}
use Rattle.sequence.specs.declared.group.FrameSize.{FrameSize}
use Rattle.sequence.specs.declared.group.FrameIds.{FrameIds}
use Rattle.sequence.specs.Fields.{FrameSizeTable, frame_size_out, frame_size_in, frame_ids_out, frame_ids_in}
use Rattle.sequence.specs.Optional.{flag_if}

-- max_frame_width_minus_1, max_frame_height_minus_1: they always fit, by the checks made before
unfoldable pub max_frame_size : ℕ → ℕ → Codec (ℕ × ℕ)
max_frame_size width-bits height-bits =
    f (width-bits + 1) 0 0 ▷ λ _.
    f (height-bits + 1) 0 0

unfoldable pub frame_size_fields : Codec FrameSizeTable
frame_size_fields =
    f 4 frame_width_bits_minus_1 0 ▷ λ width-bits.
    f 4 frame_height_bits_minus_1 0 ▷ λ height-bits.
    max_frame_size width-bits height-bits

-- a size has at most the bits that its bit count minus 1 says
abbrev pub bits_hold : ℕ → ℕ → Bool
bits_hold bits_minus_1 size = ltb size (2 ^ (bits_minus_1 + 1))

-- both bit counts are checked before either is written
unfoldable pub frame_size : Codec FrameSize
frame_size = via frame_size_out frame_size_in (
    checked (λ p. bits_hold p.0 p.1.1.0) (Inconsistent frame_width_bits_minus_1 0) (
    checked (λ p. bits_hold p.1.0 p.1.1.1) (Inconsistent frame_height_bits_minus_1 0) frame_size_fields))

-- frame_id_numbers_present_flag is 0 with the reduced header
unfoldable pub frame_ids : Bool → Codec FrameIds
frame_ids reduced = via frame_ids_out frame_ids_in (
    flag_if (not reduced) frame_id_numbers_present_flag 0 false ▷ λ present.
    choose present (f 4 delta_frame_id_length_minus_2 0 ▷ λ _. f 3 additional_frame_id_length_minus_1 0) (absent (0, 0)))
