use Rattle.bits.specs.Codec.{◌▷◌, via, flag}
use Rattle.sequence.specs.Tools.{full_tools}
use Rattle.writer.proofs.Walking.{walk}
use Rattle.sequence_writer.proofs.write_tools.full_tools.Goals as goal

pub returns-in_err-flag : goal.returns-in_err-flag
unfolding full_tools ◌▷◌ via flag
returns-in_err-flag c = search walk depth 14

pub returns-in_err-flag-2 : goal.returns-in_err-flag-2
unfolding full_tools ◌▷◌ via flag
returns-in_err-flag-2 c = search walk depth 14

pub returns-in_err-flag-3 : goal.returns-in_err-flag-3
unfolding full_tools ◌▷◌ via flag
returns-in_err-flag-3 c = search walk depth 14

pub returns : goal.returns
unfolding full_tools ◌▷◌ via flag
returns c = search walk depth 14
