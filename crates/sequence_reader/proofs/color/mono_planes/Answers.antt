use Rattle.sequence.specs.Color.{fixed_sampling, mono_planes}
use Rattle.sequence_reader.proofs.Steps.{grouped_steps}
use Rattle.sequence_reader.proofs.color.mono_planes.Goals as goal

pub returns : goal.returns
unfolding mono_planes fixed_sampling
returns c = search grouped_steps depth 14 fits 4000
