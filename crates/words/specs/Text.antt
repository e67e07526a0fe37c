-- Text as a list of bytes. A byte is its ASCII code.
use Rattle.std.specs.Prelude.{◌≡◌, cond, List, [], ◌∷◌, ◌++◌, ℕ, zero, suc, ◌+◌, ◌/◌, ◌%◌, ◌≤◌, eqb, ltb, length}
use Prim.Native.Char.{code}
use Prim.Native.String.{String, [] as end, ◌∷◌ as ◌then◌}
use Rattle.std.proofs.Math.Seq.{paste}

-- the bytes of a text of ASCII
abbrev pub codes : String → List ℕ
codes end = []
codes (c then s) = code c ∷ codes s

-- the text beside a number in a table, or another
unfoldable pub find : ℕ → List (ℕ × String) → List ℕ → List ℕ
find n [] other = other
find n ((k, s) ∷ rows) other = cond (eqb n k) (codes s) (find n rows other)

-- a number in decimal, of at most so many digits
unfoldable pub digits : ℕ → ℕ → List ℕ
digits zero n = []
digits (suc k) n = cond (ltb n 10) ((48 + n) ∷ []) (digits k (n / 10) ++ ((48 + n % 10) ∷ []))

-- a number below 2^64 in decimal
abbrev pub decimal : ℕ → List ℕ
decimal n = digits 20 n

-- Where a slice has room for bytes behind a place, they are put there, and nothing else is changed. r is the place behind them.
abbrev pub Put : List ℕ → ℕ → List ℕ → ℕ → List ℕ → Type 0
Put out at s r after = at + length s ≤ length out → (r ≡ at + length s) × (after ≡ paste out at s (length s))
