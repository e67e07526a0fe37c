use native.Mathlib.Omega.{arith}
use Rattle.reader.proofs.Reading.{f_fits}
use Rattle.sequence_reader.proofs.points.points.Goals as goal

pub operating_points-requires : goal.operating_points-requires
operating_points-requires c = omega (arith, f_fits 5 0 0 c.in_ok-minus_1.ensures.said)
