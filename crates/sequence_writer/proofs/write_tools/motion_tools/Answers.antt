use Rattle.bits.specs.Codec.{◌▷◌, select, via, f, flag, inferred}
use Rattle.sequence.specs.Optional.{f_if}
use Rattle.sequence.specs.Tools.{motion_tools, choice}
use Rattle.writer.proofs.Walking.{walk}
use Rattle.sequence_writer.proofs.write_tools.motion_tools.Goals as goal

pub returns-in_err-choice : goal.returns-in_err-choice
unfolding motion_tools choice f_if ◌▷◌ select via f flag inferred
returns-in_err-choice c = search walk depth 14

pub returns-in_err-integer_mv : goal.returns-in_err-integer_mv
unfolding motion_tools choice f_if ◌▷◌ select via f flag inferred
returns-in_err-integer_mv c = search walk depth 14

pub returns : goal.returns
unfolding motion_tools choice f_if ◌▷◌ select via f flag inferred
returns c = search walk depth 14
