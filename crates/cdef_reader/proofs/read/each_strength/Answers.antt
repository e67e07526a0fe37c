use Rattle.fill.proofs.Looping.{rest_on}
use Rattle.cdef_reader.proofs.read.each_strength.Goals as goal

pub loop-i-preserved : goal.loop-i-preserved
loop-i-preserved c = rest_on c.loop-i.invariant c.loop-i-test.true c.in_ok-strengths_if.ensures
