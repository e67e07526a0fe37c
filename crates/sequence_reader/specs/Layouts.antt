-- The sequence header's record as numbers: its fields one behind the other, in the tables' order, with 32 operating points.
use Rattle.std.specs.Prelude.{List, ℕ, ◌+◌, ◌*◌, replicate}
use Rattle.fill.specs.Fills.{Layout, same, bit, at, of, each, ◌▸◌, ◌▹◌}
use Rattle.fill.specs.Rows.{Row, word, flag, none, struct, ◌&◌}
use Rattle.obu.specs.declared.header.ObuHeader.{ObuHeader}
use Rattle.obu.specs.Header.{header_out, header_in}
use Rattle.sequence.specs.declared.record.TimingInfo.{TimingInfo}
use Rattle.sequence.specs.declared.record.DecoderModelInfo.{DecoderModelInfo}
use Rattle.sequence.specs.declared.record.OperatingPoint.{OperatingPoint}
use Rattle.sequence.specs.declared.record.ColorConfig.{ColorConfig}
use Rattle.sequence.specs.declared.record.SequenceHeaderObu.{SequenceHeaderObu}
use Rattle.sequence.specs.declared.group.OperatingParametersInfo.{OperatingParametersInfo}
use Rattle.sequence.specs.declared.group.PointModel.{PointModel}
use Rattle.sequence.specs.declared.group.PointDelay.{PointDelay}
use Rattle.sequence.specs.declared.group.Timing.{Timing}
use Rattle.sequence.specs.declared.group.Points.{Points}
use Rattle.sequence.specs.declared.group.FrameSize.{FrameSize}
use Rattle.sequence.specs.declared.group.FrameIds.{FrameIds}
use Rattle.sequence.specs.declared.group.BlockTools.{BlockTools}
use Rattle.sequence.specs.declared.group.HintTools.{HintTools}
use Rattle.sequence.specs.declared.group.Choice.{Choice}
use Rattle.sequence.specs.declared.group.HintBits.{HintBits}
use Rattle.sequence.specs.declared.group.InterTools.{InterTools}
use Rattle.sequence.specs.declared.group.FilterTools.{FilterTools}
use Rattle.sequence.specs.declared.group.ColorDescription.{ColorDescription}
use Rattle.sequence.specs.declared.group.Sampling.{Sampling}
use Rattle.sequence.specs.declared.group.Planes.{Planes}
use Rattle.sequence.specs.Fields as fields
use Rattle.sequence.specs.Points.{no_point}

abbrev pub In : Type 0 → Type 0
In A = Layout (List ℕ) A

-- 5.3.2, 5.3.3
abbrev pub obu_header : Row ObuHeader
obu_header = struct header_out header_in (none & word & flag & flag & none & word & word & none)

-- 5.5.3, 5.5.4
abbrev pub timing_info : Row TimingInfo
timing_info = struct fields.timing_info_out fields.timing_info_in (word & word & flag & word)

abbrev pub decoder_model_info : Row DecoderModelInfo
decoder_model_info = struct fields.decoder_model_info_out fields.decoder_model_info_in (word & word & word & word)

abbrev pub timing : Row Timing
timing = struct fields.timing_out fields.timing_in (flag & timing_info & flag & decoder_model_info)

-- one operating point, from a place on: nine numbers
abbrev pub operating_parameters_info : ℕ → In OperatingParametersInfo
operating_parameters_info i = of fields.operating_parameters_info_out fields.operating_parameters_info_in (at 0 (i + 4) same ▸ at 0 (i + 5) same ▸ at 0 (i + 6) bit)

abbrev pub point_model : ℕ → In PointModel
point_model i = of fields.point_model_out fields.point_model_in (at 0 (i + 3) bit ▸ operating_parameters_info i)

abbrev pub point_delay : ℕ → In PointDelay
point_delay i = of fields.point_delay_out fields.point_delay_in (at 0 (i + 7) bit ▸ at 0 (i + 8) same)

abbrev pub point_rest : ℕ → In fields.PointRestTable
point_rest i = at 0 (i + 2) same ▸ point_model i ▸ point_delay i

abbrev pub operating_point : ℕ → In OperatingPoint
operating_point i = of fields.operating_point_out fields.operating_point_in (at 0 i same ▸ at 0 (i + 1) same ▸ point_rest i)

-- of 32 points those that the count says; the places of the others are not looked at, and those points are zeros
abbrev pub operating_points : ℕ → ℕ → In (List OperatingPoint)
operating_points from count = each no_point (λ i. operating_point (from + 9 * i)) 32 0 count

abbrev pub points : Row Points
points = record { size = 290; from = λ i. of fields.points_out fields.points_in (at 0 i bit ▸ (at 0 (i + 1) same ▹ λ count. operating_points (i + 2) (count + 1))) }

-- 5.5.1
abbrev pub frame_size : Row FrameSize
frame_size = struct fields.frame_size_out fields.frame_size_in (word & word & word & word)

abbrev pub frame_ids : Row FrameIds
frame_ids = struct fields.frame_ids_out fields.frame_ids_in (flag & word & word)

abbrev pub block_tools : Row BlockTools
block_tools = struct fields.block_tools_out fields.block_tools_in (flag & flag & flag)

abbrev pub hint_tools : Row HintTools
hint_tools = struct fields.hint_tools_out fields.hint_tools_in (flag & flag)

abbrev pub choice : Row Choice
choice = struct fields.choice_out fields.choice_in (flag & word)

abbrev pub hint_bits : Row HintBits
hint_bits = struct fields.hint_bits_out fields.hint_bits_in (word & word)

abbrev pub motion_tools : Row fields.MotionTable
motion_tools = choice & choice & hint_bits

abbrev pub order_tools : Row fields.OrderTable
order_tools = flag & flag & hint_tools & motion_tools

abbrev pub inter_tools : Row InterTools
inter_tools = struct fields.inter_tools_out fields.inter_tools_in (flag & flag & flag & order_tools)

abbrev pub filter_tools : Row FilterTools
filter_tools = struct fields.filter_tools_out fields.filter_tools_in (flag & flag & flag)

-- 5.5.2
abbrev pub color_description : Row ColorDescription
color_description = struct fields.color_description_out fields.color_description_in (flag & word & word & word)

abbrev pub sampling : Row Sampling
sampling = struct fields.sampling_out fields.sampling_in (flag & flag & word)

abbrev pub planes : Row Planes
planes = struct fields.planes_out fields.planes_in (flag & sampling & flag)

abbrev pub color_config : Row ColorConfig
color_config = struct fields.color_config_out fields.color_config_in (flag & flag & flag & color_description & planes & word)

-- the whole
abbrev pub general : Row fields.GeneralTable
general = timing & points

abbrev pub color_and_grain : Row fields.ColorAndGrainTable
color_and_grain = color_config & flag

abbrev pub tools_and_color : Row fields.ToolsAndColorTable
tools_and_color = block_tools & inter_tools & filter_tools & color_and_grain

abbrev pub body : Row fields.BodyTable
body = general & frame_size & frame_ids & tools_and_color

abbrev pub sequence : Row fields.SequenceTable
sequence = word & flag & flag & body

abbrev pub header : Row SequenceHeaderObu
header = struct fields.record_out fields.record_in (obu_header & sequence)

-- the record's numbers, and the record that so many numbers are; the OBU header that five are
unfoldable pub numbers_of : SequenceHeaderObu → List ℕ
numbers_of h = (header.from 0).put h (replicate header.size 0)

unfoldable pub record_of : List ℕ → SequenceHeaderObu
record_of ns = (header.from 0).get ns

unfoldable pub header_of : List ℕ → ObuHeader
header_of ns = (obu_header.from 0).get ns
