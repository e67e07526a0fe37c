use Rattle.sequence.specs.Color.{color_description, color_values}
use Rattle.sequence_reader.proofs.Steps.{value_steps}
use Rattle.sequence_reader.proofs.color.color_description.Goals as goal

pub returns : goal.returns
unfolding color_description color_values
returns c = search value_steps depth 14 fits 4000
