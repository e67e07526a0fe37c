use Rattle.bits.specs.Codec.{◌▷◌, via}
use Rattle.sequence.specs.Tools.{hint_tools}
use Rattle.writer.proofs.Walking.{walk}
use Rattle.sequence_writer.proofs.write_tools.hint_tools.Goals as goal

pub returns-in_err-flag_if : goal.returns-in_err-flag_if
unfolding hint_tools ◌▷◌ via
returns-in_err-flag_if c = search walk depth 14

pub returns : goal.returns
unfolding hint_tools ◌▷◌ via
returns c = search walk depth 14
