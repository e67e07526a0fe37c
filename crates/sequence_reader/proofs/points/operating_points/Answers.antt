use Rattle.sequence_reader.proofs.Pointing.{points_on, points_halt}
use Rattle.sequence_reader.proofs.points.operating_points.Goals as goal

pub returns-in_err-any_point : goal.returns-in_err-any_point
returns-in_err-any_point c = points_halt _ _ _ _ c.loop-i.invariant c.loop-i-test.true c.in_err-any_point.ensures c.from_residual.ensures.1

pub loop-i-preserved : goal.loop-i-preserved
loop-i-preserved c = points_on _ _ _ _ c.loop-i.invariant c.loop-i-test.true c.in_ok-any_point.ensures
