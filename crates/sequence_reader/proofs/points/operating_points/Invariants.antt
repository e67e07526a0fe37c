use Rattle.sequence_reader.proofs.Pointing.{Points}
use Rattle.std.specs.Prelude.{min}
use Rattle.sequence_reader.proofs.points.operating_points.Given as goal

abbrev pub invariant-loop-i : goal.invariant-loop-i
invariant-loop-i l = Points l.reduced l.form.has_model (min l.form.width 32) l.form.has_delay l.count l.initial.r l.initial.n l.r l.n l.i
