use Rattle.sequence.specs.Tools.{inter_tools}
use Rattle.sequence_reader.proofs.Choosing.{choice_steps}
use Rattle.sequence_reader.proofs.tools.inter_tools.Goals as goal

pub returns : goal.returns
unfolding inter_tools
returns c = search choice_steps depth 14 fits 4000
