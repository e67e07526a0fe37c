use Rattle.sequence_numbers.proofs.Records.{record_given}
use Rattle.sequence_numbers.proofs.record.sequence_header.Goals as goal

pub returns : goal.returns
returns c =
    record_given c.args.n.now c.operating_points-operating_points.result c.obu_header-obu_header.ensures c.timing_info-timing_info.ensures
    c.decoder_model_info-decoder_model_info.ensures c.operating_points-operating_points.ensures c.color_config-color_config.ensures
