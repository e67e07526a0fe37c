use native.Mathlib.Omega.{arith}
use lib.Dec.{lit≤}
use Rattle.loop_filter.specs.LoopFilter.{loop_filter_params, no_old}
use Rattle.loop_filter.specs.declared.record.LoopFilterParams.{LoopFilterParams}
use Rattle.loop_filter.specs.declared.record.LoopFilterContext.{LoopFilterContext}
use Rattle.writer.proofs.Walking.{lent}
use Rattle.parts.proofs.Writing.{Near, once}
use Rattle.loop_filter.proofs.Counts.{within}
use Rattle.loop_filter.proofs.write.write_loop_filter_params.Goals as goal

near : (context : LoopFilterContext) (p : LoopFilterParams) → Near 24 ((loop_filter_params context no_old).enc p)
near context p = record { most = omega (arith, (within context p).most); size = lit≤ tt }

pub returns : goal.returns
returns c = search (once, near, lent {n = 24} c.loop_filter_params-walk.ensures)
