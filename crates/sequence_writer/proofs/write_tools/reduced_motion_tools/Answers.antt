use Rattle.bits.specs.Codec.{◌▷◌}
use Rattle.sequence.specs.Tools.{reduced_motion_tools}
use Rattle.writer.proofs.Walking.{walk}
use Rattle.sequence_writer.proofs.write_tools.reduced_motion_tools.Goals as goal

pub returns-in_err-no_choice : goal.returns-in_err-no_choice
unfolding reduced_motion_tools ◌▷◌
returns-in_err-no_choice c = search walk depth 14

pub returns-in_err-no_choice-2 : goal.returns-in_err-no_choice-2
unfolding reduced_motion_tools ◌▷◌
returns-in_err-no_choice-2 c = search walk depth 14

pub returns : goal.returns
unfolding reduced_motion_tools ◌▷◌
returns c = search walk depth 14
