use borrow.Author.Rules.{rules}
use Rattle.loop_filter_reader.proofs.Deltas.{refs_on, refs_halt}
use Rattle.loop_filter_reader.proofs.read.ref_deltas.Goals as goal

pub returns-in_err-n : goal.returns-in_err-n
returns-in_err-n c = refs_halt c.args.old.now c.loop-i.i c.loop-i-test.true (search rules) c.loop-i.invariant c.in_err-n.ensures.said c.from_residual.ensures.1

pub loop-i-preserved : goal.loop-i-preserved
loop-i-preserved c = refs_on c.args.old.now c.loop-i.i c.loop-i-test.true (search rules) c.loop-i.invariant c.in_ok-n.ensures.said (search rules)
