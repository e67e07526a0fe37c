-- A field that is coded only under a condition, and else must hold an inferred value.
use Rattle.std.specs.Prelude.{Bool, ℕ}
use Rattle.bits.specs.Codec.{Codec, f, flag, inferred, inferred_flag, select}

-- f(n) as element e, index i, if coded; else the value x
unfoldable pub f_if : Bool → ℕ → ℕ → ℕ → ℕ → Codec ℕ
f_if coded n e i x = select coded (f n e i) (inferred e i x)

-- the same of a flag
unfoldable pub flag_if : Bool → ℕ → ℕ → Bool → Codec Bool
flag_if coded e i x = select coded flag (inferred_flag e i x)
