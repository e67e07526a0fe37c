use Rattle.bits.specs.Codes.{leb128}
use Rattle.writer.proofs.Coding.{Goes}
use Rattle.writer.proofs.BitWriter.leb128.Given as goal

abbrev pub invariant-loop-value : goal.invariant-loop-value
invariant-loop-value l = Goes ((leb128 8).enc l.fn.value) l.fn.self l.value l.self

abbrev pub decreases-loop-value : goal.decreases-loop-value
decreases-loop-value l = l.value
