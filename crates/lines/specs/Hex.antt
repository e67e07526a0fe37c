-- Bytes in hex, two digits each.
use Rattle.std.specs.Prelude.{◌≡◌, cond, List, [], ◌∷◌, ◌++◌, ℕ, ◌+◌, ◌-◌, ◌*◌, ◌/◌, ◌%◌, ◌<◌, ltb, length, drop, Option, Some, None}
use Rattle.std.specs.Option.{option_and_then, option_map}
use Rattle.lines.specs.Text.{hex_digit}

-- the byte of two digits
abbrev pub byte : ℕ → ℕ → Option ℕ
byte a b = option_and_then (λ high. option_map (λ low. 16 * high + low) (hex_digit b)) (hex_digit a)

-- the bytes of a text that is hex digits, even in number
unfoldable pub bytes : List ℕ → Option (List ℕ)
bytes [] = Some []
bytes (a ∷ []) = None
bytes (a ∷ b ∷ s) = option_and_then (λ first. option_map (λ rest. first ∷ rest) (bytes s)) (byte a b)

-- the digit of a value below 16, in upper case
abbrev pub glyph : ℕ → ℕ
glyph d = cond (ltb d 10) (48 + d) (65 + (d - 10))

-- bytes as hex digits
unfoldable pub upper : List ℕ → List ℕ
upper [] = []
upper (b ∷ s) = glyph (b / 16) ∷ glyph (b % 16) ∷ upper s

-- A text is read as its bytes, at the start of a slice whose other bytes are kept; or it is not hex, or the slice is too short.
abbrev pub Hexed : List ℕ → List ℕ → Option ℕ → List ℕ → Type 0
Hexed s before (Some n) after = (read : List ℕ) × (bytes s ≡ Some read) × (n ≡ length read) × (after ≡ read ++ drop n before)
Hexed s before None after = (read : List ℕ) → bytes s ≡ Some read → length before < length read
