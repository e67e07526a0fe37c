use Rattle.sequence_reader.specs.Tails.{counted_planes}
use Rattle.sequence_reader.proofs.Steps.{fill_exits, fill_steps, known_when}
use Rattle.sequence_reader.proofs.color.counted_planes.Goals as goal

pub returns-in_err-planes : goal.returns-in_err-planes
unfolding counted_planes
returns-in_err-planes c = search fill_exits depth 14 fits 4000

pub returns : goal.returns
unfolding counted_planes
returns c = search (fill_steps, known_when) depth 14 fits 4000
