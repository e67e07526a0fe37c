use Rattle.reader.proofs.Counting.{Counted}
use Rattle.reader.proofs.BitReader.unary.Given as goal

abbrev pub invariant-loop-zeros : goal.invariant-loop-zeros
invariant-loop-zeros l = Counted l.element l.index l.initial.self l.zeros l.self
