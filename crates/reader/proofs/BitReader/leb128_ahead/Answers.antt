use Rattle.reader.proofs.Counting.{sized_on}
use Rattle.reader.proofs.BitReader.leb128_ahead.Goals as goal

pub loop-preserved : goal.loop-preserved
loop-preserved c = sized_on c.loop.invariant c.loop-test.true c.in_ok-byte.ensures.said c.if-byte-lt128.false
