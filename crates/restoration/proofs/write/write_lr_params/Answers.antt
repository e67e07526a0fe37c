use native.Mathlib.Omega.{arith}
use lib.Dec.{lit≤}
use Rattle.restoration.specs.Restoration.{lr_params}
use Rattle.restoration.specs.declared.record.LoopRestorationParams.{LoopRestorationParams}
use Rattle.restoration.specs.declared.record.LoopRestorationContext.{LoopRestorationContext}
use Rattle.writer.proofs.Walking.{lent}
use Rattle.parts.proofs.Writing.{Near, once}
use Rattle.restoration.proofs.Counts.{within}
use Rattle.restoration.proofs.write.write_lr_params.Goals as goal

near : (context : LoopRestorationContext) (p : LoopRestorationParams) → Near 16 ((lr_params context).enc p)
near context p = record { most = omega (arith, (within context p).most); size = lit≤ tt }

pub returns : goal.returns
returns c = search (once, near, lent {n = 16} c.lr_params-walk.ensures)
