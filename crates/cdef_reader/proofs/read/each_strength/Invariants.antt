use Rattle.cdef_reader.proofs.Strengths.{Places}
use Rattle.cdef_reader.proofs.read.each_strength.Given as goal

abbrev pub invariant-loop-i : goal.invariant-loop-i
invariant-loop-i l = Places l.planes l.count l.fn.r l.fn.n l.r l.n l.i
