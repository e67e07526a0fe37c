use Rattle.bits.specs.Codec.{◌▷◌, via, flag}
use Rattle.sequence.specs.Tools.{block_tools}
use Rattle.writer.proofs.Walking.{walk}
use Rattle.sequence_writer.proofs.write_tools.block_tools.Goals as goal

pub returns-in_err-flag : goal.returns-in_err-flag
unfolding block_tools ◌▷◌ via flag
returns-in_err-flag c = search walk depth 14

pub returns-in_err-flag-2 : goal.returns-in_err-flag-2
unfolding block_tools ◌▷◌ via flag
returns-in_err-flag-2 c = search walk depth 14

pub returns : goal.returns
unfolding block_tools ◌▷◌ via flag
returns c = search walk depth 14
