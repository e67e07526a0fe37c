-- Hex both ways: the digits of any bytes are read as those bytes.
use Rattle.std.proofs.Common.{◌≡◌, refl, List, [], ◌∷◌, ℕ, suc, ◌+◌, ◌*◌, ◌/◌, ◌%◌, ◌<◌, get_or, Some, arith}
use Rattle.std.proofs.lemmas.Bool.Decides.{nat_tests}
use Rattle.lines.specs.Text.{hex_digit}
use Rattle.lines.specs.Hex.{bytes, glyph, upper}

digit_back : (d : ℕ) → d < 16 → hex_digit (glyph d) ≡ Some d
digit_back d h = grind (arith, nat_tests)

pub bytes_back : (s : List ℕ) → ((i : ℕ) → get_or s i 0 < 256) → bytes (upper s) ≡ Some s
unfolding bytes upper
bytes_back [] h = refl
bytes_back (b ∷ s) h =
    let k : b < 256 = h 0 in
    let e : 16 * (b / 16) + b % 16 ≡ b = omega arith in
    rw (digit_back (b / 16) (omega arith), digit_back (b % 16) (omega arith), e, bytes_back s (λ i. h (suc i)))
