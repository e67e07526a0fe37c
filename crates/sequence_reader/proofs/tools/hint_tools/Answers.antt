use Rattle.sequence.specs.Tools.{hint_tools}
use Rattle.sequence_reader.proofs.Steps.{fill_steps}
use Rattle.sequence_reader.proofs.tools.hint_tools.Goals as goal

pub returns : goal.returns
unfolding hint_tools
returns c = search fill_steps depth 14 fits 4000
