-- How a number crosses into a field, and an array of them.
use Rattle.std.specs.Prelude.{List, [], ◌∷◌, ◌++◌, Bool, not, ℕ, zero, suc, eqb, get_or, ℤ, pos, negsuc}
use Rattle.parts.specs.Codes.{same}

-- the number at a place
abbrev pub at : List ℕ → ℕ → ℕ
at xs i = get_or xs i 0

-- any number but 0 sets a flag
abbrev pub flag_at : List ℕ → ℕ → Bool
flag_at xs i = not (eqb (at xs i) 0)

-- Where numbers have a sign: the number itself; a flag; and a field without sign, which takes a number below 0 as the largest number, that no coded
-- field holds either.
abbrev pub signed_at : List ℤ → ℕ → ℤ
signed_at xs i = get_or xs i (pos 0)

abbrev pub set_at : List ℤ → ℕ → Bool
set_at xs i = not (same (signed_at xs i) (pos 0))

abbrev pub natural : ℤ → ℕ
natural (pos n) = n
natural (negsuc n) = 4294967295

abbrev pub natural_at : List ℤ → ℕ → ℕ
natural_at xs i = natural (signed_at xs i)

-- f 0, f 1, .., f (n - 1), one behind the other, and the same of single values
unfoldable pub joined : {A : Type 0} → ℕ → (ℕ → List A) → List A
joined zero f = []
joined (suc n) f = joined n f ++ f n

abbrev pub each : {A : Type 0} → ℕ → (ℕ → A) → List A
each n f = joined n (λ i. f i ∷ [])
