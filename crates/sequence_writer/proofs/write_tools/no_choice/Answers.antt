use Rattle.bits.specs.Codec.{◌▷◌, via, absent, inferred}
use Rattle.sequence.specs.Tools.{no_choice}
use Rattle.writer.proofs.Walking.{walk}
use Rattle.sequence_writer.proofs.write_tools.no_choice.Goals as goal

pub returns : goal.returns
unfolding no_choice ◌▷◌ via absent inferred
returns c = search walk depth 14
