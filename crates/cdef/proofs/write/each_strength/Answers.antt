use Rattle.writer.proofs.Loops.{each_start, each_more, each_halt, each-done}
use Rattle.cdef.specs.Cdef.{each_strength}
use Rattle.cdef.proofs.write.each_strength.Goals as goal

pub loop-i-init : goal.loop-i-init
unfolding each_strength
loop-i-init c = search each_start

pub returns-in_err-strengths : goal.returns-in_err-strengths
returns-in_err-strengths c = search each_halt

pub loop-i-preserved : goal.loop-i-preserved
loop-i-preserved c = search each_more

pub returns : goal.returns
returns c = search each-done
