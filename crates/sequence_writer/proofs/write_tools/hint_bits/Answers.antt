use native.Mathlib.Omega.{arith}
use Rattle.bits.specs.Codec.{◌▷◌, choose, via, f, absent, inferred}
use Rattle.sequence.specs.Tools.{hint_bits}
use Rattle.writer.proofs.Walking.{walk}
use Rattle.sequence_writer.proofs.Sizes.{field_few}
use Rattle.sequence_writer.proofs.write_tools.hint_bits.Goals as goal

pub returns-in_err-f : goal.returns-in_err-f
unfolding hint_bits ◌▷◌ choose via f absent inferred
returns-in_err-f c = search walk depth 14

pub overflow_add-minus_1 : goal.overflow_add-minus_1
overflow_add-minus_1 c = omega (arith, field_few c.branch-f.ensures c.in_ok-f.is c.f.ensures)

pub returns-then-order_hint : goal.returns-then-order_hint
unfolding hint_bits ◌▷◌ choose via f absent inferred
returns-then-order_hint c = search walk depth 14

pub returns : goal.returns
unfolding hint_bits ◌▷◌ choose via f absent inferred
returns c = search walk depth 14
