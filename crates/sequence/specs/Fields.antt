-- The structs as the tables' tuples, out and in, and the record in its groups.
use Rattle.std.specs.Prelude.{List, Bool, ℕ}
use Rattle.obu.specs.declared.header.ObuHeader.{ObuHeader}
use Rattle.sequence.specs.declared.record.TimingInfo.{TimingInfo}
use Rattle.sequence.specs.declared.record.DecoderModelInfo.{DecoderModelInfo}
use Rattle.sequence.specs.declared.record.OperatingPoint.{OperatingPoint}
use Rattle.sequence.specs.declared.record.ColorConfig.{ColorConfig}
use Rattle.sequence.specs.declared.record.SequenceHeaderObu.{SequenceHeaderObu}
use Rattle.sequence.specs.declared.group.OperatingParametersInfo.{OperatingParametersInfo}
use Rattle.sequence.specs.declared.group.PointModel.{PointModel}
use Rattle.sequence.specs.declared.group.PointDelay.{PointDelay}
use Rattle.sequence.specs.declared.group.Timing.{Timing}
use Rattle.sequence.specs.declared.group.Points.{Points}
use Rattle.sequence.specs.declared.group.FrameSize.{FrameSize}
use Rattle.sequence.specs.declared.group.FrameIds.{FrameIds}
use Rattle.sequence.specs.declared.group.BlockTools.{BlockTools}
use Rattle.sequence.specs.declared.group.HintTools.{HintTools}
use Rattle.sequence.specs.declared.group.Choice.{Choice}
use Rattle.sequence.specs.declared.group.HintBits.{HintBits}
use Rattle.sequence.specs.declared.group.InterTools.{InterTools}
use Rattle.sequence.specs.declared.group.FilterTools.{FilterTools}
use Rattle.sequence.specs.declared.group.ColorDescription.{ColorDescription}
use Rattle.sequence.specs.declared.group.Sampling.{Sampling}
use Rattle.sequence.specs.declared.group.Planes.{Planes}

-- The timing of 5.5.1, 5.5.3 and 5.5.4.
abbrev pub timing_info_out : TimingInfo → ℕ × (ℕ × (Bool × ℕ))
timing_info_out x = (x.num_units_in_display_tick, (x.time_scale, (x.equal_picture_interval, x.num_ticks_per_picture_minus_1)))

abbrev pub timing_info_in : ℕ × (ℕ × (Bool × ℕ)) → TimingInfo
timing_info_in = λ (tick, (scale, (equal, ticks))). record {
  num_units_in_display_tick = tick;
  time_scale = scale;
  equal_picture_interval = equal;
  num_ticks_per_picture_minus_1 = ticks;
}

abbrev pub decoder_model_info_out : DecoderModelInfo → ℕ × (ℕ × (ℕ × ℕ))
decoder_model_info_out x = (x.buffer_delay_length_minus_1, (x.num_units_in_decoding_tick, (x.buffer_removal_time_length_minus_1, x.frame_presentation_time_length_minus_1)))

abbrev pub decoder_model_info_in : ℕ × (ℕ × (ℕ × ℕ)) → DecoderModelInfo
decoder_model_info_in = λ (delay, (tick, (removal, presentation))). record {
  buffer_delay_length_minus_1 = delay;
  num_units_in_decoding_tick = tick;
  buffer_removal_time_length_minus_1 = removal;
  frame_presentation_time_length_minus_1 = presentation;
}

abbrev pub TimingTable : Type 0
TimingTable = Bool × (TimingInfo × (Bool × DecoderModelInfo))

abbrev pub timing_out : Timing → TimingTable
timing_out x = (x.timing_info_present_flag, (x.timing_info, (x.decoder_model_info_present_flag, x.decoder_model_info)))

abbrev pub timing_in : TimingTable → Timing
timing_in = λ (has-timing, (timing, (has_model, model))). record {
  timing_info_present_flag = has-timing;
  timing_info = timing;
  decoder_model_info_present_flag = has_model;
  decoder_model_info = model;
}

abbrev pub timing_of : SequenceHeaderObu → Timing
timing_of h = record {
  timing_info_present_flag = h.timing_info_present_flag;
  timing_info = h.timing_info;
  decoder_model_info_present_flag = h.decoder_model_info_present_flag;
  decoder_model_info = h.decoder_model_info;
}

-- The operating points of 5.5.1, and 5.5.5.
abbrev pub operating_parameters_info_out : OperatingParametersInfo → ℕ × (ℕ × Bool)
operating_parameters_info_out x = (x.decoder_buffer_delay, (x.encoder_buffer_delay, x.low_delay_mode_flag))

abbrev pub operating_parameters_info_in : ℕ × (ℕ × Bool) → OperatingParametersInfo
operating_parameters_info_in = λ (decoder, (encoder, low)). record { decoder_buffer_delay = decoder; encoder_buffer_delay = encoder; low_delay_mode_flag = low }

abbrev pub operating_parameters_info_of : OperatingPoint → OperatingParametersInfo
operating_parameters_info_of p = record {
  decoder_buffer_delay = p.decoder_buffer_delay;
  encoder_buffer_delay = p.encoder_buffer_delay;
  low_delay_mode_flag = p.low_delay_mode_flag;
}

abbrev pub point_model_out : PointModel → Bool × OperatingParametersInfo
point_model_out x = (x.decoder_model_present_for_this_op, x.operating_parameters_info)

abbrev pub point_model_in : Bool × OperatingParametersInfo → PointModel
point_model_in = λ (present, parameters). record { decoder_model_present_for_this_op = present; operating_parameters_info = parameters }

abbrev pub point_model_of : OperatingPoint → PointModel
point_model_of p = record { decoder_model_present_for_this_op = p.decoder_model_present_for_this_op; operating_parameters_info = operating_parameters_info_of p }

abbrev pub point_delay_out : PointDelay → Bool × ℕ
point_delay_out x = (x.initial_display_delay_present_for_this_op, x.initial_display_delay_minus_1)

abbrev pub point_delay_in : Bool × ℕ → PointDelay
point_delay_in = λ (present, delay). record { initial_display_delay_present_for_this_op = present; initial_display_delay_minus_1 = delay }

abbrev pub point_delay_of : OperatingPoint → PointDelay
point_delay_of p = record {
  initial_display_delay_present_for_this_op = p.initial_display_delay_present_for_this_op;
  initial_display_delay_minus_1 = p.initial_display_delay_minus_1;
}

abbrev pub PointRestTable : Type 0
PointRestTable = ℕ × (PointModel × PointDelay)

abbrev pub point_rest_out : OperatingPoint → PointRestTable
point_rest_out p = (p.seq_tier, (point_model_of p, point_delay_of p))

abbrev pub OperatingPointTable : Type 0
OperatingPointTable = ℕ × (ℕ × PointRestTable)

abbrev pub operating_point_out : OperatingPoint → OperatingPointTable
operating_point_out p = (p.idc, (p.seq_level_idx, point_rest_out p))

abbrev pub operating_point_in : OperatingPointTable → OperatingPoint
operating_point_in = λ (idc, (level, (tier, (model, delay)))). record {
  idc = idc;
  seq_level_idx = level;
  seq_tier = tier;
  decoder_model_present_for_this_op = model.decoder_model_present_for_this_op;
  decoder_buffer_delay = model.operating_parameters_info.decoder_buffer_delay;
  encoder_buffer_delay = model.operating_parameters_info.encoder_buffer_delay;
  low_delay_mode_flag = model.operating_parameters_info.low_delay_mode_flag;
  initial_display_delay_present_for_this_op = delay.initial_display_delay_present_for_this_op;
  initial_display_delay_minus_1 = delay.initial_display_delay_minus_1;
}

abbrev pub points_out : Points → Bool × (ℕ × List OperatingPoint)
points_out x = (x.initial_display_delay_present_flag, (x.operating_points_cnt_minus_1, x.operating_points))

abbrev pub points_in : Bool × (ℕ × List OperatingPoint) → Points
points_in = λ (has-delay, (count, points)). record {
  initial_display_delay_present_flag = has-delay;
  operating_points_cnt_minus_1 = count;
  operating_points = points;
}

abbrev pub points_of : SequenceHeaderObu → Points
points_of h = record {
  initial_display_delay_present_flag = h.initial_display_delay_present_flag;
  operating_points_cnt_minus_1 = h.operating_points_cnt_minus_1;
  operating_points = h.operating_points;
}

-- The frame of 5.5.1.
abbrev pub FrameSizeTable : Type 0
FrameSizeTable = ℕ × (ℕ × (ℕ × ℕ))

abbrev pub frame_size_out : FrameSize → FrameSizeTable
frame_size_out x = (x.frame_width_bits_minus_1, (x.frame_height_bits_minus_1, (x.max_frame_width_minus_1, x.max_frame_height_minus_1)))

abbrev pub frame_size_in : FrameSizeTable → FrameSize
frame_size_in = λ (width-bits, (height-bits, (width, height))). record {
  frame_width_bits_minus_1 = width-bits;
  frame_height_bits_minus_1 = height-bits;
  max_frame_width_minus_1 = width;
  max_frame_height_minus_1 = height;
}

abbrev pub frame_size_of : SequenceHeaderObu → FrameSize
frame_size_of h = record {
  frame_width_bits_minus_1 = h.frame_width_bits_minus_1;
  frame_height_bits_minus_1 = h.frame_height_bits_minus_1;
  max_frame_width_minus_1 = h.max_frame_width_minus_1;
  max_frame_height_minus_1 = h.max_frame_height_minus_1;
}

abbrev pub frame_ids_out : FrameIds → Bool × (ℕ × ℕ)
frame_ids_out x = (x.frame_id_numbers_present_flag, (x.delta_frame_id_length_minus_2, x.additional_frame_id_length_minus_1))

abbrev pub frame_ids_in : Bool × (ℕ × ℕ) → FrameIds
frame_ids_in = λ (present, (delta, additional)). record {
  frame_id_numbers_present_flag = present;
  delta_frame_id_length_minus_2 = delta;
  additional_frame_id_length_minus_1 = additional;
}

abbrev pub frame_ids_of : SequenceHeaderObu → FrameIds
frame_ids_of h = record {
  frame_id_numbers_present_flag = h.frame_id_numbers_present_flag;
  delta_frame_id_length_minus_2 = h.delta_frame_id_length_minus_2;
  additional_frame_id_length_minus_1 = h.additional_frame_id_length_minus_1;
}

-- The tools of 5.5.1.
abbrev pub block_tools_out : BlockTools → Bool × (Bool × Bool)
block_tools_out x = (x.use_128x128_superblock, (x.enable_filter_intra, x.enable_intra_edge_filter))

abbrev pub block_tools_in : Bool × (Bool × Bool) → BlockTools
block_tools_in = λ (superblock, (intra, edge)). record { use_128x128_superblock = superblock; enable_filter_intra = intra; enable_intra_edge_filter = edge }

abbrev pub block_tools_of : SequenceHeaderObu → BlockTools
block_tools_of h = record {
  use_128x128_superblock = h.use_128x128_superblock;
  enable_filter_intra = h.enable_filter_intra;
  enable_intra_edge_filter = h.enable_intra_edge_filter;
}

abbrev pub hint_tools_out : HintTools → Bool × Bool
hint_tools_out x = (x.enable_jnt_comp, x.enable_ref_frame_mvs)

abbrev pub hint_tools_in : Bool × Bool → HintTools
hint_tools_in = λ (jnt, mvs). record { enable_jnt_comp = jnt; enable_ref_frame_mvs = mvs }

abbrev pub hint_tools_of : SequenceHeaderObu → HintTools
hint_tools_of h = record { enable_jnt_comp = h.enable_jnt_comp; enable_ref_frame_mvs = h.enable_ref_frame_mvs }

abbrev pub choice_out : Choice → Bool × ℕ
choice_out x = (x.seq_choose, x.seq_force)

abbrev pub choice_in : Bool × ℕ → Choice
choice_in = λ (choose, force). record { seq_choose = choose; seq_force = force }

abbrev pub screen_of : SequenceHeaderObu → Choice
screen_of h = record { seq_choose = h.seq_choose_screen_content_tools; seq_force = h.seq_force_screen_content_tools }

abbrev pub integer_of : SequenceHeaderObu → Choice
integer_of h = record { seq_choose = h.seq_choose_integer_mv; seq_force = h.seq_force_integer_mv }

abbrev pub hint_bits_out : HintBits → ℕ × ℕ
hint_bits_out x = (x.order_hint_bits_minus_1, x.order_hint_bits)

abbrev pub hint_bits_in : ℕ × ℕ → HintBits
hint_bits_in = λ (minus, bits). record { order_hint_bits_minus_1 = minus; order_hint_bits = bits }

abbrev pub hint_bits_of : SequenceHeaderObu → HintBits
hint_bits_of h = record { order_hint_bits_minus_1 = h.order_hint_bits_minus_1; order_hint_bits = h.order_hint_bits }

abbrev pub MotionTable : Type 0
MotionTable = Choice × (Choice × HintBits)

abbrev pub OrderTable : Type 0
OrderTable = Bool × (Bool × (HintTools × MotionTable))

abbrev pub InterToolsTable : Type 0
InterToolsTable = Bool × (Bool × (Bool × OrderTable))

abbrev pub inter_tools_out : InterTools → InterToolsTable
inter_tools_out x = (x.enable_interintra_compound, (x.enable_masked_compound, (x.enable_warped_motion, (x.enable_dual_filter, (x.enable_order_hint, (x.hint_tools, (x.screen_content_tools, (x.integer_mv, x.hint_bits))))))))

abbrev pub inter_tools_in : InterToolsTable → InterTools
inter_tools_in = λ (interintra, (masked, (warped, (dual, (hint, (tools, (screen, (integer, bits)))))))). record {
  enable_interintra_compound = interintra;
  enable_masked_compound = masked;
  enable_warped_motion = warped;
  enable_dual_filter = dual;
  enable_order_hint = hint;
  hint_tools = tools;
  screen_content_tools = screen;
  integer_mv = integer;
  hint_bits = bits;
}

abbrev pub motion_out : SequenceHeaderObu → MotionTable
motion_out h = (screen_of h, (integer_of h, hint_bits_of h))

abbrev pub order_out : SequenceHeaderObu → OrderTable
order_out h = (h.enable_dual_filter, (h.enable_order_hint, (hint_tools_of h, motion_out h)))

abbrev pub inter_tools_of : SequenceHeaderObu → InterTools
inter_tools_of h = record {
  enable_interintra_compound = h.enable_interintra_compound;
  enable_masked_compound = h.enable_masked_compound;
  enable_warped_motion = h.enable_warped_motion;
  enable_dual_filter = h.enable_dual_filter;
  enable_order_hint = h.enable_order_hint;
  hint_tools = hint_tools_of h;
  screen_content_tools = screen_of h;
  integer_mv = integer_of h;
  hint_bits = hint_bits_of h;
}

abbrev pub filter_tools_out : FilterTools → Bool × (Bool × Bool)
filter_tools_out x = (x.enable_superres, (x.enable_cdef, x.enable_restoration))

abbrev pub filter_tools_in : Bool × (Bool × Bool) → FilterTools
filter_tools_in = λ (superres, (cdef, restoration)). record { enable_superres = superres; enable_cdef = cdef; enable_restoration = restoration }

abbrev pub filter_tools_of : SequenceHeaderObu → FilterTools
filter_tools_of h = record { enable_superres = h.enable_superres; enable_cdef = h.enable_cdef; enable_restoration = h.enable_restoration }

-- The colour of 5.5.2.
abbrev pub color_description_out : ColorDescription → Bool × (ℕ × (ℕ × ℕ))
color_description_out x = (x.color_description_present_flag, (x.color_primaries, (x.transfer_characteristics, x.matrix_coefficients)))

abbrev pub color_description_in : Bool × (ℕ × (ℕ × ℕ)) → ColorDescription
color_description_in = λ (present, (primaries, (transfer, matrix))). record {
  color_description_present_flag = present;
  color_primaries = primaries;
  transfer_characteristics = transfer;
  matrix_coefficients = matrix;
}

abbrev pub color_description_of : ColorConfig → ColorDescription
color_description_of color = record {
  color_description_present_flag = color.color_description_present_flag;
  color_primaries = color.color_primaries;
  transfer_characteristics = color.transfer_characteristics;
  matrix_coefficients = color.matrix_coefficients;
}

abbrev pub sampling_out : Sampling → Bool × (Bool × ℕ)
sampling_out x = (x.subsampling_x, (x.subsampling_y, x.chroma_sample_position))

abbrev pub sampling_in : Bool × (Bool × ℕ) → Sampling
sampling_in = λ (x, (y, position)). record { subsampling_x = x; subsampling_y = y; chroma_sample_position = position }

abbrev pub sampling_of : ColorConfig → Sampling
sampling_of color = record { subsampling_x = color.subsampling_x; subsampling_y = color.subsampling_y; chroma_sample_position = color.chroma_sample_position }

abbrev pub planes_out : Planes → Bool × (Sampling × Bool)
planes_out x = (x.color_range, (x.sampling, x.separate_uv_delta_q))

abbrev pub planes_in : Bool × (Sampling × Bool) → Planes
planes_in = λ (range, (sampling, separate)). record { color_range = range; sampling = sampling; separate_uv_delta_q = separate }

abbrev pub planes_of : ColorConfig → Planes
planes_of color = record { color_range = color.color_range; sampling = sampling_of color; separate_uv_delta_q = color.separate_uv_delta_q }

abbrev pub ColorTable : Type 0
ColorTable = Bool × (Bool × (Bool × (ColorDescription × (Planes × ℕ))))

abbrev pub color_config_out : ColorConfig → ColorTable
color_config_out color = (color.high_bitdepth, (color.twelve_bit, (color.mono_chrome, (color_description_of color, (planes_of color, color.num_planes)))))

abbrev pub color_config_in : ColorTable → ColorConfig
color_config_in = λ (high, (twelve, (mono, (description, (planes, count))))). record {
  high_bitdepth = high;
  twelve_bit = twelve;
  mono_chrome = mono;
  color_description_present_flag = description.color_description_present_flag;
  color_primaries = description.color_primaries;
  transfer_characteristics = description.transfer_characteristics;
  matrix_coefficients = description.matrix_coefficients;
  color_range = planes.color_range;
  subsampling_x = planes.sampling.subsampling_x;
  subsampling_y = planes.sampling.subsampling_y;
  chroma_sample_position = planes.sampling.chroma_sample_position;
  separate_uv_delta_q = planes.separate_uv_delta_q;
  num_planes = count;
}

-- The whole of 5.5.1, and the record: an OBU header and that.
abbrev pub ColorAndGrainTable : Type 0
ColorAndGrainTable = ColorConfig × Bool

abbrev pub ToolsAndColorTable : Type 0
ToolsAndColorTable = BlockTools × (InterTools × (FilterTools × ColorAndGrainTable))

abbrev pub GeneralTable : Type 0
GeneralTable = Timing × Points

abbrev pub BodyTable : Type 0
BodyTable = GeneralTable × (FrameSize × (FrameIds × ToolsAndColorTable))

abbrev pub SequenceTable : Type 0
SequenceTable = ℕ × (Bool × (Bool × BodyTable))

abbrev pub color_and_grain_out : SequenceHeaderObu → ColorAndGrainTable
color_and_grain_out h = (h.color_config, h.film_grain_params_present)

abbrev pub tools_and_color_out : SequenceHeaderObu → ToolsAndColorTable
tools_and_color_out h = (block_tools_of h, (inter_tools_of h, (filter_tools_of h, color_and_grain_out h)))

abbrev pub general_out : SequenceHeaderObu → GeneralTable
general_out h = (timing_of h, points_of h)

abbrev pub body_out : SequenceHeaderObu → BodyTable
body_out h = (general_out h, (frame_size_of h, (frame_ids_of h, tools_and_color_out h)))

abbrev pub sequence_out : SequenceHeaderObu → SequenceTable
sequence_out h = (h.seq_profile, (h.still_picture, (h.reduced_still_picture_header, body_out h)))

abbrev pub record_out : SequenceHeaderObu → ObuHeader × SequenceTable
record_out h = (h.obu_header, sequence_out h)

abbrev pub record_in : ObuHeader × SequenceTable → SequenceHeaderObu
record_in = λ (header, (profile, (still, (reduced, ((timing, points), (size, (ids, (block, (inter, (filter, (color, grain))))))))))). record {
  obu_header = header;
  seq_profile = profile;
  still_picture = still;
  reduced_still_picture_header = reduced;
  timing_info_present_flag = timing.timing_info_present_flag;
  timing_info = timing.timing_info;
  decoder_model_info_present_flag = timing.decoder_model_info_present_flag;
  decoder_model_info = timing.decoder_model_info;
  initial_display_delay_present_flag = points.initial_display_delay_present_flag;
  operating_points_cnt_minus_1 = points.operating_points_cnt_minus_1;
  operating_points = points.operating_points;
  frame_width_bits_minus_1 = size.frame_width_bits_minus_1;
  frame_height_bits_minus_1 = size.frame_height_bits_minus_1;
  max_frame_width_minus_1 = size.max_frame_width_minus_1;
  max_frame_height_minus_1 = size.max_frame_height_minus_1;
  frame_id_numbers_present_flag = ids.frame_id_numbers_present_flag;
  delta_frame_id_length_minus_2 = ids.delta_frame_id_length_minus_2;
  additional_frame_id_length_minus_1 = ids.additional_frame_id_length_minus_1;
  use_128x128_superblock = block.use_128x128_superblock;
  enable_filter_intra = block.enable_filter_intra;
  enable_intra_edge_filter = block.enable_intra_edge_filter;
  enable_interintra_compound = inter.enable_interintra_compound;
  enable_masked_compound = inter.enable_masked_compound;
  enable_warped_motion = inter.enable_warped_motion;
  enable_dual_filter = inter.enable_dual_filter;
  enable_order_hint = inter.enable_order_hint;
  enable_jnt_comp = inter.hint_tools.enable_jnt_comp;
  enable_ref_frame_mvs = inter.hint_tools.enable_ref_frame_mvs;
  seq_choose_screen_content_tools = inter.screen_content_tools.seq_choose;
  seq_force_screen_content_tools = inter.screen_content_tools.seq_force;
  seq_choose_integer_mv = inter.integer_mv.seq_choose;
  seq_force_integer_mv = inter.integer_mv.seq_force;
  order_hint_bits_minus_1 = inter.hint_bits.order_hint_bits_minus_1;
  order_hint_bits = inter.hint_bits.order_hint_bits;
  enable_superres = filter.enable_superres;
  enable_cdef = filter.enable_cdef;
  enable_restoration = filter.enable_restoration;
  color_config = color;
  film_grain_params_present = grain;
}
