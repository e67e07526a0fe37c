-- 5.5.3 timing_info, 5.5.4 decoder_model_info, and the lines of 5.5.1 that they stand in.
use Rattle.std.specs.Prelude.{Bool, false, ℕ}
use Rattle.bits.specs.Codec.{Codec, f, flag, absent, inferred_flag, choose, via, ◌▷◌}
use Rattle.bits.specs.Codes.{uvlc}
use Rattle.bits.specs.Elements.{reduced_still_picture_header, num_ticks_per_picture_minus_1, decoder_model_info_present_flag, buffer_delay_length_minus_1, buffer_removal_time_length_minus_1, frame_presentation_time_length_minus_1}
use Rattle.sequence.specs.declared.record.TimingInfo.{TimingInfo}
use Rattle.sequence.specs.declared.record.DecoderModelInfo.{DecoderModelInfo}
use Rattle.sequence.specs.declared.group.Timing.{Timing}
use Rattle.sequence.specs.Fields.{timing_info_out, timing_info_in, decoder_model_info_out, decoder_model_info_in, timing_out, timing_in}
use Rattle.sequence.specs.Optional.{flag_if}

-- 5.5.3
unfoldable pub ticks_per_picture : Bool → Codec ℕ
ticks_per_picture equal-picture-interval = choose equal-picture-interval (uvlc num_ticks_per_picture_minus_1 0) (absent 0)

unfoldable pub timing_info : Codec TimingInfo
timing_info = via timing_info_out timing_info_in (
    f 32 0 0 ▷ λ num-units-in-display-tick.
    f 32 0 0 ▷ λ time-scale.
    flag ▷ λ equal-picture-interval.
    ticks_per_picture equal-picture-interval)

-- 5.5.4
unfoldable pub decoder_model_info : Codec DecoderModelInfo
decoder_model_info = via decoder_model_info_out decoder_model_info_in (
    f 5 buffer_delay_length_minus_1 0 ▷ λ _.
    f 32 0 0 ▷ λ num-units-in-decoding-tick.
    f 5 buffer_removal_time_length_minus_1 0 ▷ λ _.
    f 5 frame_presentation_time_length_minus_1 0)

-- 5.5.1
abbrev pub no_timing_info : TimingInfo
no_timing_info = timing_info_in (0, (0, (false, 0)))

abbrev pub no_decoder_model_info : DecoderModelInfo
no_decoder_model_info = decoder_model_info_in (0, (0, (0, 0)))

unfoldable pub timing_info_if : Bool → Codec TimingInfo
timing_info_if present = choose present timing_info (absent no_timing_info)

unfoldable pub decoder_model_info_if : Bool → Codec DecoderModelInfo
decoder_model_info_if present = choose present decoder_model_info (absent no_decoder_model_info)

unfoldable pub timing : Codec Timing
timing = via timing_out timing_in (
    flag ▷ λ timing-info-present.
    timing_info_if timing-info-present ▷ λ _.
    flag_if timing-info-present decoder_model_info_present_flag 0 false ▷ λ decoder-model-info-present.
    decoder_model_info_if decoder-model-info-present)

-- with the reduced header: the timing flag must be 0, and the rest is not looked at
unfoldable pub reduced_timing : Codec Timing
reduced_timing = via timing_out timing_in (
    inferred_flag reduced_still_picture_header 0 false ▷ λ _.
    absent (no_timing_info, (false, no_decoder_model_info)))
