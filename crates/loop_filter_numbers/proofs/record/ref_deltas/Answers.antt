use lib.IntN.{pos}
use Rattle.numbers.proofs.Filling.{filled_none, filled_on, filled-end}
use Rattle.numbers.proofs.Narrowing.{stored}
use Rattle.loop_filter_numbers.proofs.record.ref_deltas.Goals as goal

pub loop-i-init : goal.loop-i-init
loop-i-init c = filled_none (pos 0)

pub loop-i-preserved : goal.loop-i-preserved
loop-i-preserved c = search (filled_on, stored)

pub returns : goal.returns
returns c = search filled-end
