use Rattle.sequence.specs.Tools.{full_tools}
use Rattle.sequence_reader.proofs.Steps.{fill_exits}
use Rattle.sequence_reader.proofs.tools.full_tools.Goals as goal

pub returns-in_err-n-3 : goal.returns-in_err-n-3
unfolding full_tools
returns-in_err-n-3 c = search fill_exits depth 14 fits 4000
