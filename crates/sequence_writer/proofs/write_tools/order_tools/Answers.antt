use Rattle.bits.specs.Codec.{◌▷◌, flag}
use Rattle.sequence.specs.Tools.{order_tools}
use Rattle.writer.proofs.Walking.{walk}
use Rattle.sequence_writer.proofs.write_tools.order_tools.Goals as goal

pub returns-in_err-flag : goal.returns-in_err-flag
unfolding order_tools ◌▷◌ flag
returns-in_err-flag c = search walk depth 14

pub returns-in_err-flag-2 : goal.returns-in_err-flag-2
unfolding order_tools ◌▷◌ flag
returns-in_err-flag-2 c = search walk depth 14

pub returns-in_err-hint_tools : goal.returns-in_err-hint_tools
unfolding order_tools ◌▷◌ flag
returns-in_err-hint_tools c = search walk depth 14

pub returns : goal.returns
unfolding order_tools ◌▷◌ flag
returns c = search walk depth 14
