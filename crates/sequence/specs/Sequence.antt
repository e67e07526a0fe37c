-- 5.5.1 sequence_header_obu, whole; and the OBU that holds it.
use Rattle.std.specs.Prelude.{Bool, ℕ, ◌+◌, leb}
use Rattle.bits.specs.Codec.{Codec, f, flag, within, choose, via, ◌▷◌}
use Rattle.bits.specs.declared.answer.Refusal.TheVariants.{Inconsistent}
use Rattle.bits.specs.Elements.{seq_profile}
use Rattle.obu.specs.Obu.{obu}
use Rattle.sequence.specs.declared.record.SequenceHeaderObu.{SequenceHeaderObu}
use Rattle.sequence.specs.Fields.{GeneralTable, ColorAndGrainTable, ToolsAndColorTable, BodyTable, SequenceTable, record_out, record_in}
use Rattle.sequence.specs.Timing.{timing, reduced_timing}
use Rattle.sequence.specs.Points.{points, reduced_points}
use Rattle.sequence.specs.Frame.{frame_size, frame_ids}
use Rattle.sequence.specs.Tools.{block_tools, inter_tools, filter_tools}
use Rattle.sequence.specs.Color.{color_config}

-- 3 to 7 fit their field and are forbidden
unfoldable pub profile : Codec ℕ
profile = within (λ v. leb v 2) (Inconsistent seq_profile 0) (f 3 seq_profile 0)

-- up to the operating points; the buffer delays are as wide as the decoder model says
unfoldable pub full_general : Codec GeneralTable
full_general = timing ▷ λ t. points t.decoder_model_info_present_flag (t.decoder_model_info.buffer_delay_length_minus_1 + 1)

unfoldable pub reduced_general : Codec GeneralTable
reduced_general = reduced_timing ▷ λ _. reduced_points

unfoldable pub general : Bool → Codec GeneralTable
general reduced = choose reduced reduced_general full_general

-- from the colour on: color_config, film_grain_params_present
unfoldable pub color_and_grain : ℕ → Codec ColorAndGrainTable
color_and_grain profile =
    color_config profile ▷ λ _.
    flag

-- from the tools on
unfoldable pub tools_and_color : ℕ → Bool → Codec ToolsAndColorTable
tools_and_color profile reduced =
    block_tools ▷ λ _.
    inter_tools reduced ▷ λ _.
    filter_tools ▷ λ _.
    color_and_grain profile

-- all behind the first three fields
unfoldable pub body : ℕ → Bool → Codec BodyTable
body profile reduced =
    general reduced ▷ λ _.
    frame_size ▷ λ _.
    frame_ids reduced ▷ λ _.
    tools_and_color profile reduced

-- The whole.
-- Difference (docs/DIFFERENCES.md, row 17): the standard demands still_picture with the reduced header. As in the crate, that is not checked.
unfoldable pub sequence_header_obu : Codec SequenceTable
sequence_header_obu =
    profile ▷ λ seq_profile.
    flag ▷ λ still-picture.
    flag ▷ λ reduced_still_picture_header.
    body seq_profile reduced_still_picture_header

-- the record's table: an OBU of type 1 around that
unfoldable pub sequence_header : Codec SequenceHeaderObu
sequence_header = via record_out record_in (obu 1 sequence_header_obu)
