use Rattle.bits.specs.Codec.{◌▷◌, via, f, flag}
use Rattle.sequence.specs.Points.{operating_parameters_info}
use Rattle.writer.proofs.Walking.{walk}
use Rattle.sequence_writer.proofs.write_points.operating_parameters_info.Goals as goal

pub returns-in_err-f : goal.returns-in_err-f
unfolding operating_parameters_info ◌▷◌ via f flag
returns-in_err-f c = search walk depth 14

pub returns-in_err-f-2 : goal.returns-in_err-f-2
unfolding operating_parameters_info ◌▷◌ via f flag
returns-in_err-f-2 c = search walk depth 14

pub returns : goal.returns
unfolding operating_parameters_info ◌▷◌ via f flag
returns c = search walk depth 14
