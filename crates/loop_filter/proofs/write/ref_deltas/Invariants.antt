use lib.IntN.{pos}
use lib.ListN.{get_or}
use Rattle.bits.specs.Elements.{loop_filter_ref_deltas}
use Rattle.writer.proofs.Loops.{Each}
use Rattle.loop_filter.specs.LoopFilter.{delta, ref_deltas, no_old}
use Rattle.loop_filter.proofs.write.ref_deltas.Given as goal

abbrev pub invariant-loop-i : goal.invariant-loop-i
invariant-loop-i l = Each ((ref_deltas no_old.0).enc l.p.loop_filter_ref_deltas) l.fn.w (pos 0) (λ i. delta (get_or no_old.0 i (pos 0)) loop_filter_ref_deltas i) 8 8 l.p.loop_filter_ref_deltas l.i l.w
