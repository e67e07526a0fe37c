use Prim.Native.Nat.{◌+◌}
use Rattle.numbers.specs.Numbers.{set_at}
use Rattle.numbers.proofs.Filling.{Filled}
use Rattle.segmentation_numbers.proofs.record.feature_enabled.Given as goal

abbrev pub invariant-loop-i : goal.invariant-loop-i
invariant-loop-i l = Filled (λ j. set_at l.n (5 + j)) 64 l.a l.i
