use Rattle.bits.specs.Codec.{◌▷◌, inferred_flag}
use Rattle.sequence.specs.Tools.{reduced_order_tools}
use Rattle.writer.proofs.Walking.{walk}
use Rattle.sequence_writer.proofs.write_tools.reduced_order_tools.Goals as goal

pub returns-in_err-unset : goal.returns-in_err-unset
unfolding reduced_order_tools ◌▷◌ inferred_flag
returns-in_err-unset c = search walk depth 14

pub returns-in_err-unset-2 : goal.returns-in_err-unset-2
unfolding reduced_order_tools ◌▷◌ inferred_flag
returns-in_err-unset-2 c = search walk depth 14

pub returns-in_err-hint_tools : goal.returns-in_err-hint_tools
unfolding reduced_order_tools ◌▷◌ inferred_flag
returns-in_err-hint_tools c = search walk depth 14

pub returns : goal.returns
unfolding reduced_order_tools ◌▷◌ inferred_flag
returns c = search walk depth 14
