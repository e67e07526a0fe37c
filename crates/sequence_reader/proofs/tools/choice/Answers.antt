use Rattle.sequence.specs.Tools.{choice}
use Rattle.sequence_reader.proofs.Steps.{value_steps}
use Rattle.sequence_reader.proofs.tools.choice.Goals as goal

pub returns : goal.returns
unfolding choice
returns c = search value_steps depth 14 fits 4000
