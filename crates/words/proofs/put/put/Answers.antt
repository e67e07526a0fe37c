use Rattle.std.proofs.Common.{arith, length-set}
use Rattle.std.proofs.lemmas.List.Edits.{paste_more}
use Rattle.words.proofs.put.put.Goals as goal

pub loop-i-preserved : goal.loop-i-preserved
loop-i-preserved c = (
  simp length-set c.loop-i.invariant.0,
  rw c.loop-i.invariant.1 (paste_more c.args.out.now c.args.at c.args.s.now c.loop-i.i 0 (omega arith) (omega arith)),
)
