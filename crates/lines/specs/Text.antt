-- Text as numbers. A byte is its ASCII code.
use Rattle.std.specs.Prelude.{cond, List, [], ◌∷◌, ℕ, ◌+◌, ◌-◌, ◌*◌, ◌^◌, ltb, leb, eqb, Option, Some, None, ℤ, pos, neg_ℤ}
use Rattle.std.specs.Option.{option_and_then, option_map}

-- the value of a decimal digit
abbrev pub decimal_digit : ℕ → Option ℕ
decimal_digit b = cond (ltb b 48) None (cond (ltb 57 b) None (Some (b - 48)))

-- the number whose first digits have the value v, and whose other digits stand in a list; v has at most 17 digits where one follows
unfoldable pub digits : ℕ → List ℕ → Option ℕ
digits v [] = Some v
digits v (b ∷ s) = cond (leb (10 ^ 17) v) None (option_and_then (λ d. digits (v * 10 + d) s) (decimal_digit b))

-- one digit or more
unfoldable pub some_digits : List ℕ → Option ℕ
some_digits [] = None
some_digits (b ∷ s) = digits 0 (b ∷ s)

-- a whole word as a number: digits, or `-` and digits
unfoldable pub numeral : List ℕ → Option ℤ
numeral [] = None
numeral (b ∷ s) = cond (eqb b 45) (option_map (λ n. neg_ℤ (pos n)) (some_digits s)) (option_map pos (some_digits (b ∷ s)))

-- the value of a hex digit of either case
abbrev pub hex_digit : ℕ → Option ℕ
hex_digit b =
    cond (ltb b 48) None
    (cond (leb b 57) (Some (b - 48))
    (cond (ltb b 65) None
    (cond (leb b 70) (Some (b - 65 + 10))
    (cond (ltb b 97) None
    (cond (leb b 102) (Some (b - 97 + 10)) None)))))
