use lib.Dec.{lit<}
use Rattle.bits.specs.Codec.{◌▷◌, via, inferred, inferred_flag}
use Rattle.sequence.specs.Points.{reduced_points, reduced_point, no_point}
use Rattle.writer.proofs.Walking.{walk, on}
use Rattle.writer.proofs.Loops.{array_first}
use Rattle.sequence_writer.proofs.write_points.reduced_points.Goals as goal

pub returns-in_err-unset : goal.returns-in_err-unset
unfolding reduced_points ◌▷◌ via inferred inferred_flag
returns-in_err-unset c = search walk depth 14

pub returns-in_err-demand : goal.returns-in_err-demand
unfolding reduced_points ◌▷◌ via inferred inferred_flag
returns-in_err-demand c = search walk depth 14

pub returns : goal.returns
unfolding reduced_points ◌▷◌ via inferred inferred_flag
returns c =
    on c.unset.ensures c.branch-unset.ensures c.in_ok-unset.is (
    on c.demand.ensures c.branch-demand.ensures c.in_ok-demand.is (
    array_first no_point (λ _. reduced_point) 32 c.args.h.operating_points (lit< tt) c.reduced_point.ensures))
