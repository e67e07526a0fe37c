use Rattle.bits.specs.Codec.{◌▷◌, via, inferred_flag}
use Rattle.sequence.specs.Tools.{reduced_tools}
use Rattle.writer.proofs.Walking.{walk}
use Rattle.sequence_writer.proofs.write_tools.reduced_tools.Goals as goal

pub returns-in_err-unset : goal.returns-in_err-unset
unfolding reduced_tools ◌▷◌ via inferred_flag
returns-in_err-unset c = search walk depth 14

pub returns-in_err-unset-2 : goal.returns-in_err-unset-2
unfolding reduced_tools ◌▷◌ via inferred_flag
returns-in_err-unset-2 c = search walk depth 14

pub returns-in_err-unset-3 : goal.returns-in_err-unset-3
unfolding reduced_tools ◌▷◌ via inferred_flag
returns-in_err-unset-3 c = search walk depth 14

pub returns : goal.returns
unfolding reduced_tools ◌▷◌ via inferred_flag
returns c = search walk depth 14
