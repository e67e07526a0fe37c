use Rattle.bits.specs.Codec.{◌▷◌, via, flag}
use Rattle.sequence.specs.Tools.{choice}
use Rattle.writer.proofs.Walking.{walk}
use Rattle.sequence_writer.proofs.write_tools.choice.Goals as goal

pub returns-in_err-flag : goal.returns-in_err-flag
unfolding choice ◌▷◌ via flag
returns-in_err-flag c = search walk depth 14

pub returns : goal.returns
unfolding choice ◌▷◌ via flag
returns c = search walk depth 14
