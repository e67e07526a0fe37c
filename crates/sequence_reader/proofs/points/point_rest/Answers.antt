use Rattle.sequence.specs.Points.{point_rest}
use Rattle.sequence_reader.proofs.Pointing.{point_exits, point_steps}
use Rattle.sequence_reader.proofs.points.point_rest.Goals as goal

pub returns-in_err-point_model : goal.returns-in_err-point_model
unfolding point_rest
returns-in_err-point_model c = search point_exits depth 14 fits 4000

pub returns : goal.returns
unfolding point_rest
returns c = search point_steps depth 14 fits 4000
