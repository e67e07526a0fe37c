use Rattle.bits.specs.Codec.{◌▷◌, flag}
use Rattle.sequence.specs.Sequence.{color_and_grain}
use Rattle.writer.proofs.Walking.{walk}
use Rattle.sequence_writer.proofs.write.color_and_grain.Goals as goal

pub returns-in_err-color_config : goal.returns-in_err-color_config
unfolding color_and_grain ◌▷◌ flag
returns-in_err-color_config c = search walk depth 14

pub returns : goal.returns
unfolding color_and_grain ◌▷◌ flag
returns c = search walk depth 14
