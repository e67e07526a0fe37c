use Rattle.bits.specs.Codec.{◌▷◌, via, f, inferred}
use Rattle.sequence.specs.Points.{reduced_point}
use Rattle.writer.proofs.Walking.{walk}
use Rattle.sequence_writer.proofs.write_points.reduced_point.Goals as goal

pub returns-in_err-demand : goal.returns-in_err-demand
unfolding reduced_point ◌▷◌ via f inferred
returns-in_err-demand c = search walk depth 14

pub returns-in_err-f : goal.returns-in_err-f
unfolding reduced_point ◌▷◌ via f inferred
returns-in_err-f c = search walk depth 14

pub returns : goal.returns
unfolding reduced_point ◌▷◌ via f inferred
returns c = search walk depth 14
