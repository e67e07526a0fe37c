use Rattle.sequence.specs.Tools.{order_tools}
use Rattle.sequence_reader.proofs.Steps.{fill_exits, fill_steps}
use Rattle.sequence_reader.proofs.tools.order_tools.Goals as goal

pub returns-in_err-hint_tools : goal.returns-in_err-hint_tools
unfolding order_tools
returns-in_err-hint_tools c = search fill_exits depth 14 fits 4000

pub returns : goal.returns
unfolding order_tools
returns c = search fill_steps depth 14 fits 4000
