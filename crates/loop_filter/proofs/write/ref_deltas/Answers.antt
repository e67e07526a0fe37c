use lib.Dec.{lit≤}
use Rattle.writer.proofs.Loops.{each_start, each_more, each_halt, each-done}
use Rattle.loop_filter.specs.LoopFilter.{ref_deltas}
use Rattle.parts.proofs.Signs.{given}
use Rattle.loop_filter.proofs.write.ref_deltas.Goals as goal

pub loop-i-init : goal.loop-i-init
unfolding ref_deltas
loop-i-init c = each_start (lit≤ tt)

pub returns-in_err-delta : goal.returns-in_err-delta
returns-in_err-delta c = search (each_halt, given)

pub loop-i-preserved : goal.loop-i-preserved
loop-i-preserved c = search (each_more, given)

pub returns : goal.returns
returns c = search each-done
