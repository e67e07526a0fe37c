use Prim.Native.Nat.{◌+◌}
use Rattle.numbers.specs.Numbers.{signed_at}
use Rattle.numbers.proofs.Filling.{Filled}
use Rattle.loop_filter_numbers.proofs.record.ref_deltas.Given as goal

abbrev pub invariant-loop-i : goal.invariant-loop-i
invariant-loop-i l = Filled (λ j. signed_at l.n (10 + j)) 8 l.a l.i
