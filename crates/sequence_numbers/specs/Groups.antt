-- The groups of the sequence header's record from their numbers, for the contracts of functions inside. No public call's contract cites this: what the
-- numbers mean is in the crate sequence_reader (Layouts.antt).
use Rattle.std.specs.Prelude.{List, ℕ, ◌+◌, ◌*◌, min}
use Rattle.obu.specs.declared.header.ObuHeader.{ObuHeader}
use Rattle.sequence.specs.declared.record.TimingInfo.{TimingInfo}
use Rattle.sequence.specs.declared.record.DecoderModelInfo.{DecoderModelInfo}
use Rattle.sequence.specs.declared.record.OperatingPoint.{OperatingPoint}
use Rattle.sequence.specs.declared.record.ColorConfig.{ColorConfig}
use Rattle.sequence_reader.specs.Places.{timing_info, decoder_model_info, model_rest, operating_points, color_config}
use Rattle.numbers.specs.Numbers.{at, flag_at}

abbrev pub point : ℕ → ℕ
point i = operating_points + 9 * i

-- of the 32 points a header uses those up to its count
abbrev pub used : ℕ → ℕ
used count = min (count + 1) 32

-- the groups
abbrev pub header_of : List ℕ → ObuHeader
header_of xs = record {
  obu_type = at xs 0;
  extension_flag = flag_at xs 1;
  has_size_field = flag_at xs 2;
  temporal_id = at xs 3;
  spatial_id = at xs 4;
}

abbrev pub timing_of : List ℕ → TimingInfo
timing_of xs = record {
  num_units_in_display_tick = at xs timing_info;
  time_scale = at xs (timing_info + 1);
  equal_picture_interval = flag_at xs (timing_info + 2);
  num_ticks_per_picture_minus_1 = at xs (timing_info + 3);
}

abbrev pub model_of : List ℕ → DecoderModelInfo
model_of xs = record {
  buffer_delay_length_minus_1 = at xs decoder_model_info;
  num_units_in_decoding_tick = at xs model_rest;
  buffer_removal_time_length_minus_1 = at xs (model_rest + 1);
  frame_presentation_time_length_minus_1 = at xs (model_rest + 2);
}

abbrev pub point_of : List ℕ → ℕ → OperatingPoint
point_of xs i = record {
  idc = at xs (point i);
  seq_level_idx = at xs (point i + 1);
  seq_tier = at xs (point i + 2);
  decoder_model_present_for_this_op = flag_at xs (point i + 3);
  decoder_buffer_delay = at xs (point i + 4);
  encoder_buffer_delay = at xs (point i + 5);
  low_delay_mode_flag = flag_at xs (point i + 6);
  initial_display_delay_present_for_this_op = flag_at xs (point i + 7);
  initial_display_delay_minus_1 = at xs (point i + 8);
}

abbrev pub color_of : List ℕ → ColorConfig
color_of xs = record {
  high_bitdepth = flag_at xs color_config;
  twelve_bit = flag_at xs (color_config + 1);
  mono_chrome = flag_at xs (color_config + 2);
  color_description_present_flag = flag_at xs (color_config + 3);
  color_primaries = at xs (color_config + 4);
  transfer_characteristics = at xs (color_config + 5);
  matrix_coefficients = at xs (color_config + 6);
  color_range = flag_at xs (color_config + 7);
  subsampling_x = flag_at xs (color_config + 8);
  subsampling_y = flag_at xs (color_config + 9);
  chroma_sample_position = at xs (color_config + 10);
  separate_uv_delta_q = flag_at xs (color_config + 11);
  num_planes = at xs (color_config + 12);
}
