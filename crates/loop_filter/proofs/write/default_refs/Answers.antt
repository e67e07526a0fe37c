use lib.Dec.{lit≤}
use Rattle.writer.proofs.Loops.{each_start, each_more, each_halt, each-done}
use Rattle.loop_filter.specs.LoopFilter.{default_refs}
use Rattle.parts.proofs.Signs.{both}
use Rattle.loop_filter.proofs.write.default_refs.Goals as goal

pub loop-i-init : goal.loop-i-init
unfolding default_refs
loop-i-init c = each_start (lit≤ tt)

pub returns-in_err-inferred_delta : goal.returns-in_err-inferred_delta
returns-in_err-inferred_delta c = search (each_halt, both)

pub loop-i-preserved : goal.loop-i-preserved
loop-i-preserved c = search (each_more, both)

pub returns : goal.returns
returns c = search each-done
