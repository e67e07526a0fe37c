use Rattle.writer.proofs.Loops.{Each}
use Rattle.cdef.specs.Cdef.{none, strengths, each_strength, strengths_out}
use Rattle.cdef.proofs.write.each_strength.Given as goal

abbrev pub invariant-loop-i : goal.invariant-loop-i
invariant-loop-i l = Each ((each_strength l.planes l.count).enc (strengths_out l.p)) l.fn.w none (strengths l.planes) 8 l.count (strengths_out l.p) l.i l.w
