use Rattle.bits.specs.Codec.{◌▷◌, via, f}
use Rattle.sequence.specs.Timing.{decoder_model_info}
use Rattle.writer.proofs.Walking.{walk}
use Rattle.sequence_writer.proofs.write_timing.decoder_model_info.Goals as goal

pub returns-in_err-f : goal.returns-in_err-f
unfolding decoder_model_info ◌▷◌ via f
returns-in_err-f c = search walk depth 14

pub returns-in_err-f-2 : goal.returns-in_err-f-2
unfolding decoder_model_info ◌▷◌ via f
returns-in_err-f-2 c = search walk depth 14

pub returns-in_err-f-3 : goal.returns-in_err-f-3
unfolding decoder_model_info ◌▷◌ via f
returns-in_err-f-3 c = search walk depth 14

pub returns : goal.returns
unfolding decoder_model_info ◌▷◌ via f
returns c = search walk depth 14
