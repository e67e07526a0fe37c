use Rattle.writer.proofs.Walking.{walk}
use Rattle.obu.specs.Framing.{trailing_bits}
use Rattle.obu.proofs.write.trailing_bits.Goals as goal

pub returns-in_err-flag : goal.returns-in_err-flag
unfolding trailing_bits
returns-in_err-flag c = search walk depth 14

pub returns : goal.returns
unfolding trailing_bits
returns c = search walk depth 14
