use Rattle.words.proofs.Puts.{puts_then}
use Rattle.lines.specs.Signed.{signed}
use Rattle.lines.proofs.signed.Number.put.Goals as goal

pub returns-then-self : goal.returns-then-self
unfolding signed
returns-then-self c = rw c.if-self.true (puts_then c.byte.ensures c.decimal.ensures)
