-- A number with a sign has a sign and twenty digits at most.
use Rattle.std.proofs.Common.{Bool, true, false, cond, [], ◌∷◌, ◌++◌, ℕ, ◌≤◌, length, length-append, arith}
use Rattle.words.specs.Text.{decimal}
use Rattle.words.proofs.Digits.{decimal_fits}
use Rattle.lines.specs.Signed.{signed}
use Rattle.lines.specs.declared.signed.Number.{Number}

either_fits : (t : Bool) (n : ℕ) → length (cond t ((45 ∷ []) ++ decimal n) (decimal n)) ≤ 21
either_fits true n = omega (arith, decimal_fits n, length-append (45 ∷ []) (decimal n))
either_fits false n = omega (arith, decimal_fits n)

pub signed_fits : (n : Number) → length (signed n) ≤ 21
unfolding signed
signed_fits n = either_fits n.is_negative n.magnitude
