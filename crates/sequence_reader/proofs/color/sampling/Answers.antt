use Rattle.sequence.specs.Color.{sampling}
use Rattle.sequence_reader.proofs.Steps.{fill_steps}
use Rattle.sequence_reader.proofs.color.sampling.Goals as goal

pub returns : goal.returns
unfolding sampling
returns c = search fill_steps depth 14 fits 4000
