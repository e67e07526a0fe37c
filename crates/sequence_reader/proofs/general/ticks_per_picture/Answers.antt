use Rattle.sequence.specs.Timing.{ticks_per_picture}
use Rattle.sequence_reader.proofs.Steps.{value_steps}
use Rattle.sequence_reader.proofs.general.ticks_per_picture.Goals as goal

pub returns : goal.returns
unfolding ticks_per_picture
returns c = search value_steps depth 14 fits 4000
