use Rattle.sequence.specs.Tools.{integer_mv, no_choice}
use Rattle.sequence_reader.proofs.Steps.{value_steps}
use Rattle.sequence_reader.proofs.tools.integer_mv.Goals as goal

pub returns : goal.returns
unfolding integer_mv no_choice
returns c = search value_steps depth 14 fits 4000
