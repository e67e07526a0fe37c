use Rattle.sequence.specs.Points.{point_model}
use Rattle.sequence_reader.proofs.Pointing.{point_steps}
use Rattle.sequence_reader.proofs.points.point_model.Goals as goal

pub returns : goal.returns
unfolding point_model
returns c = search point_steps depth 14 fits 4000
