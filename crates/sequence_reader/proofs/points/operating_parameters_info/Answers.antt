use Rattle.sequence.specs.Points.{operating_parameters_info}
use Rattle.sequence_reader.proofs.Pointing.{point_steps}
use Rattle.sequence_reader.proofs.points.operating_parameters_info.Goals as goal

pub returns : goal.returns
unfolding operating_parameters_info
returns c = search point_steps depth 14 fits 4000
