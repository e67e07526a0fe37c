use Rattle.writer.proofs.Loops.{each_start, each_more, each_halt, each-done}
use Rattle.sequence.specs.Points.{operating_points}
use Rattle.sequence_writer.proofs.write_points.operating_points.Goals as goal

pub loop-i-init : goal.loop-i-init
unfolding operating_points
loop-i-init c = each_start c.requires

pub loop-i-preserved : goal.loop-i-preserved
loop-i-preserved c = each_more c.loop-i.invariant c.loop-i-test.true c.operating_point.ensures c.branch-operating_point.ensures c.in_ok-operating_point.is

pub returns-in_err-operating_point : goal.returns-in_err-operating_point
returns-in_err-operating_point c = search each_halt

pub returns : goal.returns
returns c = search each-done
