use Rattle.bits.specs.Codec.{◌▷◌, via, flag}
use Rattle.sequence.specs.Color.{color_description}
use Rattle.writer.proofs.Walking.{walk}
use Rattle.sequence_writer.proofs.write_color.color_description.Goals as goal

pub returns-in_err-flag : goal.returns-in_err-flag
unfolding color_description ◌▷◌ via flag
returns-in_err-flag c = search walk depth 14

pub returns : goal.returns
unfolding color_description ◌▷◌ via flag
returns c = search walk depth 14
