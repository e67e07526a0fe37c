use Rattle.sequence.specs.Color.{other_planes}
use Rattle.sequence_reader.proofs.Steps.{fill_exits, fill_steps}
use Rattle.sequence_reader.proofs.color.other_planes.Goals as goal

pub returns-in_err-sampling : goal.returns-in_err-sampling
unfolding other_planes
returns-in_err-sampling c = search fill_exits depth 14 fits 4000

pub returns-in_err-n-2 : goal.returns-in_err-n-2
unfolding other_planes
returns-in_err-n-2 c = search fill_exits depth 14 fits 4000

pub returns : goal.returns
unfolding other_planes
returns c = search fill_steps depth 14 fits 4000
