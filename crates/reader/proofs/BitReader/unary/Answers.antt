use Rattle.reader.proofs.Counting.{counted_on}
use Rattle.reader.proofs.BitReader.unary.Goals as goal

pub loop-zeros-preserved : goal.loop-zeros-preserved
loop-zeros-preserved c = counted_on c.loop-zeros.invariant c.loop-zeros-test.true c.in_ok-flag.ensures.said c.if-branch.false
