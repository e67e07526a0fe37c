use mathlib.Core.Path.{◌≡◌}
use Prim.Native.Nat.{ℕ, ◌+◌, ◌*◌, ◌%◌, ◌^◌, ◌≤◌, ◌<◌}
use native.Mathlib.Nat.{one-mul, mod-eq_of_lt, mul-le-mul}
use native.Mathlib.Omega.{arith}
use lib.Arith.{digits_lt}
use lib.Pow.{pow-lt, pow_mono}
use mir.Syntax.{w32}
use mir.Val.{Fits}
use Rattle.writer.proofs.Walking.{walk}
use Rattle.parts.proofs.Packing.{pair_packed}
use Rattle.parts.proofs.pair.pair.Goals as goal

top_is : (n : ℕ) → n ≤ 16 → 1 * 2 ^ n % 2 ^ 32 ≡ 2 ^ n
top_is n l = rw one-mul (mod-eq_of_lt (pow-lt {j = 32} (omega arith)))

module _ (n a b : ℕ) (l : n ≤ 16) (k : a < 1 * 2 ^ n % 2 ^ 32) (m : b < 1 * 2 ^ n % 2 ^ 32) where
  below : a * (1 * 2 ^ n % 2 ^ 32) + b < 4294967296
  below =
      let t : 1 * 2 ^ n % 2 ^ 32 ≤ 65536 = rw (top_is n l) (pow_mono {j = 16} l) in
      omega (arith, digits_lt k m, mul-le-mul t t)

  high_fits : Fits w32 (a * (1 * 2 ^ n % 2 ^ 32))
  high_fits = record { fits = omega (arith, below) }

  sum_fits : Fits w32 (a * (1 * 2 ^ n % 2 ^ 32) + b)
  sum_fits = record { fits = below }

pub returns-then-b-top : goal.returns-then-b-top
returns-then-b-top c = search (pair_packed, top_is)

pub returns-in_err-f : goal.returns-in_err-f
returns-in_err-f c = search walk depth 14

pub returns : goal.returns
returns c = search walk depth 14
