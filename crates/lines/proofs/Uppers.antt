-- Bytes in hex, one after the other.
use Rattle.std.proofs.Common.{◌≡◌, refl, List, [], ◌∷◌, ◌++◌, ℕ, ◌+◌, ◌/◌, ◌%◌, ◌<◌, zero, suc, ◌*◌, set, length, take, get_or, append_assoc, add-one, arith}
use Rattle.std.proofs.Math.Seq.{take-suc, paste}
use Rattle.std.proofs.lemmas.List.Edits.{paste_more}
use Rattle.lines.specs.Hex.{glyph, upper}

upper_append : (s t : List ℕ) → upper (s ++ t) ≡ upper s ++ upper t
unfolding upper
upper_append [] t = refl
upper_append (b ∷ s) t = rw (upper_append s t)

pub upper_more : (s : List ℕ) (i : ℕ) → i < length s → upper (take (i + 1) s) ≡ (upper (take i s) ++ (glyph (get_or s i 0 / 16) ∷ [])) ++ (glyph (get_or s i 0 % 16) ∷ [])
unfolding upper
upper_more s i h = rw (add-one, take-suc s i 0 h, upper_append, append_assoc)

pub upper_length : (s : List ℕ) → length (upper s) ≡ 2 * length s
unfolding upper
upper_length [] = refl
upper_length (b ∷ s) = omega (arith, upper_length s)

upper_high : (s : List ℕ) (i : ℕ) → i < length s → get_or (upper s) (2 * i) 0 ≡ glyph (get_or s i 0 / 16)
unfolding upper
upper_high [] i h = absurd (omega arith)
upper_high (b ∷ s) zero h = refl
upper_high (b ∷ s) (suc i) h = let e : 2 * suc i ≡ suc (suc (2 * i)) = omega arith in rw e (upper_high s i (omega arith))

upper_low : (s : List ℕ) (i : ℕ) → i < length s → get_or (upper s) (2 * i + 1) 0 ≡ glyph (get_or s i 0 % 16)
unfolding upper
upper_low [] i h = absurd (omega arith)
upper_low (b ∷ s) zero h = refl
upper_low (b ∷ s) (suc i) h = let e : 2 * suc i + 1 ≡ suc (suc (2 * i + 1)) = omega arith in rw e (upper_low s i (omega arith))

-- a byte's two digits, put behind those before it
pub hex_more : (d : List ℕ) (at : ℕ) (s : List ℕ) (i : ℕ) → at + 2 * i + 1 < length d → i < length s
    → set (set (paste d at (upper s) (2 * i)) (at + 2 * i) (glyph (get_or s i 0 / 16))) (at + 2 * i + 1) (glyph (get_or s i 0 % 16)) ≡ paste d at (upper s) (2 * (i + 1))
hex_more d at s i h l =
    let n = upper_length s in
    let a : at + (2 * i + 1) ≡ at + 2 * i + 1 = omega arith in
    let b : 2 * i + 1 + 1 ≡ 2 * (i + 1) = omega arith in
    let p = paste_more d at (upper s) (2 * i) 0 (omega arith) (omega arith) in
    let q = paste_more d at (upper s) (2 * i + 1) 0 (omega arith) (omega arith) in
    rw (← upper_high s i l, p, ← upper_low s i l, ← a, ← b) q
