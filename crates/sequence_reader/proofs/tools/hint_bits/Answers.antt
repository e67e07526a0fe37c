use native.Mathlib.Omega.{arith}
use Rattle.reader.proofs.Reading.{f_fits}
use Rattle.sequence.specs.Tools.{hint_bits}
use Rattle.sequence_reader.proofs.Steps.{fill_steps}
use Rattle.sequence_reader.proofs.tools.hint_bits.Goals as goal

pub returns-then-not-order_hint : goal.returns-then-not-order_hint
unfolding hint_bits
returns-then-not-order_hint c = search fill_steps depth 14 fits 4000

pub overflow_add-n : goal.overflow_add-n
overflow_add-n c = omega (arith, f_fits 3 0 0 c.in_ok-minus_1.ensures.said)

pub returns : goal.returns
unfolding hint_bits
returns c = search fill_steps depth 14 fits 4000
