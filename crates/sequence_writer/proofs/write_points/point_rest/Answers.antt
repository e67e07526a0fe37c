use Rattle.bits.specs.Codec.{◌▷◌}
use Rattle.sequence.specs.Points.{point_rest}
use Rattle.writer.proofs.Walking.{walk}
use Rattle.sequence_writer.proofs.write_points.point_rest.Goals as goal

pub returns-in_err-f_if : goal.returns-in_err-f_if
unfolding point_rest ◌▷◌
returns-in_err-f_if c = search walk depth 14

pub returns-in_err-point_model : goal.returns-in_err-point_model
unfolding point_rest ◌▷◌
returns-in_err-point_model c = search walk depth 14

pub returns : goal.returns
unfolding point_rest ◌▷◌
returns c = search walk depth 14
