use Rattle.std.proofs.Common.{arith}
use Rattle.words.proofs.Digits.{one_digit, last_digit}
use Rattle.words.proofs.Puts.{puts_then}
use Rattle.words.proofs.put.Text.+decimal.Goals as goal

pub returns-then-n-lt10 : goal.returns-then-n-lt10
returns-then-n-lt10 t c = rw (← one_digit c.args.n (omega arith)) c.byte.ensures

pub returns-else-n-lt10 : goal.returns-else-n-lt10
returns-else-n-lt10 t c =
    rw (← last_digit c.args.n (omega arith) (omega arith)) (puts_then c.decimal.ensures c.byte-else-n-lt10.ensures)
