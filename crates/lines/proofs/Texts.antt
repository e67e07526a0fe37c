-- How the loop over digits goes on: one byte more of a text is one step more of the definition.
use Rattle.std.proofs.Common.{◌≡◌, List, ℕ, ◌^◌, ◌≤◌, ◌<◌, length, drop, Some, None, arith}
use Rattle.std.proofs.Math.Seq.{drop-cons}
use Rattle.std.proofs.lemmas.Bool.Decides.{nat_tests}
use Rattle.std.specs.Char.{digit_value}
use Rattle.lines.specs.Text.{digits, hex_digit}

pub no_room : (v : ℕ) (s : List ℕ) (i : ℕ) → i < length s → 10 ^ 17 ≤ v → digits v (drop i s) ≡ None
unfolding digits
no_room v s i h l = rw (drop-cons s i 0 h) (grind (arith, nat_tests))

pub hex_value : (b : ℕ) → digit_value b < 16 → hex_digit b ≡ Some (digit_value b)
hex_value b h = grind (arith, nat_tests)
