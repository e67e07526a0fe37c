-- The invariant: the bytes so far, and what is left, decide.
use mathlib.Core.Path.{◌≡◌}
use mathlib.Core.Bool.{◌&&◌}
use Prim.Native.Nat.{◌*◌}
use Rattle.bits.specs.Bits.{from}
use Rattle.obu.specs.Framing.{all_zero}
use Rattle.obu.proofs.read.zero_bytes.Given as goal

abbrev pub invariant-loop-j : goal.invariant-loop-j
invariant-loop-j l = (l.clear && all_zero (from l.s (l.j * 8))) ≡ all_zero (from l.s (l.i * 8))
