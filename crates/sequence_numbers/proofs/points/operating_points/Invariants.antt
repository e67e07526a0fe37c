-- the places below i are filled
use Rattle.numbers.proofs.Filling.{Filled}
use Rattle.sequence_numbers.specs.Groups.{point_of}
use Rattle.sequence_numbers.proofs.points.operating_points.Given as goal

abbrev pub invariant-loop-i : goal.invariant-loop-i
invariant-loop-i l = Filled (point_of l.n) 32 l.points l.i
