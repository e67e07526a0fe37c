-- the points from i on are left of the walk
use Rattle.sequence.specs.Points.{operating_points, operating_point, no_point}
use Rattle.writer.proofs.Loops.{Each}
use Rattle.sequence_writer.proofs.write_points.operating_points.Given as goal

abbrev pub invariant-loop-i : goal.invariant-loop-i
invariant-loop-i l = Each ((operating_points l.form.has_model l.form.width l.form.has_delay l.count).enc l.points) l.fn.w no_point (operating_point l.form.has_model l.form.width l.form.has_delay) 32 l.count l.points l.i l.w
