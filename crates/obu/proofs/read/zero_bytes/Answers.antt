use native.Mathlib.Omega.{arith}
use Rattle.obu.proofs.TailReading.{zero_next, zero_all}
use Rattle.obu.proofs.read.zero_bytes.Goals as goal

pub loop-j-preserved : goal.loop-j-preserved
loop-j-preserved c =
    zero_next _ _ c.loop-j.j c.reach-j-end.ensures (omega arith) (omega (arith, c.type_inv.s c.loop-j.j)) c.loop-j.clear c.still_zero-clear.ensures c.loop-j.invariant

pub returns : goal.returns
returns c = zero_all _ _ c.loop-j.j c.reach-j-end.ensures (omega arith) c.loop-j.clear c.loop-j.invariant
