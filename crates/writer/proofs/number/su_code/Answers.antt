use Rattle.std.proofs.Common.{rules}
use Rattle.bits.proofs.Signs.{same}
use Rattle.writer.proofs.SuCodes.{code_is}
use Rattle.writer.proofs.number.su_code.Goals as goal

pub returns-then-zigzag-all : goal.returns-then-zigzag-all
returns-then-zigzag-all c = search (rules, code_is, same)
