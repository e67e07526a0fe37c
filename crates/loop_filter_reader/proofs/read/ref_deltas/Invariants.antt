use Rattle.loop_filter_reader.proofs.Deltas.{Refs}
use Rattle.loop_filter_reader.proofs.read.ref_deltas.Given as goal

abbrev pub invariant-loop-i : goal.invariant-loop-i
invariant-loop-i l = Refs l.old l.initial.r l.initial.n l.r l.n l.i
