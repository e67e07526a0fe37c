use Rattle.bits.specs.Codec.{◌▷◌, via, f}
use Rattle.sequence.specs.Points.{operating_point}
use Rattle.writer.proofs.Walking.{walk}
use Rattle.sequence_writer.proofs.write_points.operating_point.Goals as goal

pub returns-in_err-f : goal.returns-in_err-f
unfolding operating_point ◌▷◌ via f
returns-in_err-f c = search walk depth 14

pub returns-in_err-f-2 : goal.returns-in_err-f-2
unfolding operating_point ◌▷◌ via f
returns-in_err-f-2 c = search walk depth 14

pub returns : goal.returns
unfolding operating_point ◌▷◌ via f
returns c = search walk depth 14
