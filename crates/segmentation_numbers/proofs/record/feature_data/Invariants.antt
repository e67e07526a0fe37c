use Prim.Native.Nat.{◌+◌}
use Rattle.numbers.specs.Numbers.{signed_at}
use Rattle.numbers.specs.Held.{int16}
use Rattle.numbers.proofs.Filling.{Filled}
use Rattle.segmentation_numbers.proofs.record.feature_data.Given as goal

abbrev pub invariant-loop-i : goal.invariant-loop-i
invariant-loop-i l = Filled (λ j. int16 (signed_at l.n (69 + j))) 64 l.a l.i
