use lib.IntN.{pos}
use lib.ListN.{get_or}
use Rattle.bits.specs.Elements.{loop_filter_ref_deltas}
use Rattle.writer.proofs.Loops.{Each}
use Rattle.parts.specs.Codes.{inferred_signed}
use Rattle.loop_filter.specs.LoopFilter.{default_deltas, default_refs}
use Rattle.loop_filter.proofs.write.default_refs.Given as goal

abbrev pub invariant-loop-i : goal.invariant-loop-i
invariant-loop-i l = Each (default_refs.enc l.p.loop_filter_ref_deltas) l.fn.w (pos 0) (λ i. inferred_signed loop_filter_ref_deltas (get_or default_deltas i (pos 0))) 8 8 l.p.loop_filter_ref_deltas l.i l.w
