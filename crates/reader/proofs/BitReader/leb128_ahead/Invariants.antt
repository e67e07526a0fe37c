use Rattle.reader.proofs.Counting.{Sized}
use Rattle.reader.proofs.BitReader.leb128_ahead.Given as goal

abbrev pub invariant-loop : goal.invariant-loop
invariant-loop l = Sized l.initial.self l.counter l.self l.unit l.low
