use native.Mathlib.Omega.{arith}
use lib.Dec.{lit≤}
use Rattle.cdef.specs.Cdef.{cdef_params}
use Rattle.cdef.specs.declared.record.CdefParams.{CdefParams}
use Rattle.cdef.specs.declared.record.CdefContext.{CdefContext}
use Rattle.writer.proofs.Walking.{lent}
use Rattle.parts.proofs.Writing.{Near, once}
use Rattle.cdef.proofs.Counts.{within}
use Rattle.cdef.proofs.write.write_cdef_params.Goals as goal

near : (context : CdefContext) (p : CdefParams) → Near 24 ((cdef_params context).enc p)
near context p = record { most = omega (arith, (within context p).most); size = lit≤ tt }

pub returns : goal.returns
returns c = search (once, near, lent {n = 24} c.cdef_params-walk.ensures)
