-- The sentence of an answer, and its place in a slice.
use Rattle.std.specs.Prelude.{cond, List, [], ◌∷◌, ◌++◌, ℕ, min, eqb, length, take, drop, get_or}
use Prim.Native.String.{String}
use Rattle.words.specs.Text.{codes, find, decimal}
use Rattle.words.specs.Names.{element, has_index}

unfoldable pub place : ℕ → ℕ → ℕ → List ℕ
place number e i = element e ++ cond (has_index number e) (codes "[" ++ decimal i ++ codes "]") []

-- the words for one thing, or a number and the words for so many
unfoldable pub counted : ℕ → List ℕ → List ℕ → List ℕ
counted n one many = cond (eqb n 1) one (decimal n ++ many)

unfoldable pub needed : ℕ → List ℕ
needed n = counted n (codes "1 byte is needed") (codes " bytes are needed")

-- the least width that would have held a value
unfoldable pub bits_needed : ℕ → List ℕ
bits_needed w = cond (eqb w 0) (codes "no width helps") (counted w (codes "1 bit is needed") (codes " bits are needed"))

-- the answers that tell nothing more
unfoldable pub plain : List (ℕ × String)
plain =
    (0, "done") ∷
    (4, "the input ends inside header, size or body") ∷
    (5, "a forbidden or reserved bit is set") ∷
    (6, "the size field is wrong") ∷
    (7, "the trailing bits are wrong") ∷
    (8, "the slice is longer than 65536 bytes") ∷
    []

unfoldable pub sentence : ℕ → ℕ → ℕ → ℕ → List ℕ
sentence number first second third =
    cond (eqb number 1) (place 1 first second ++ codes " is inconsistent")
    (cond (eqb number 2) (place 2 first second ++ (codes " does not fit its field: " ++ bits_needed third))
    (cond (eqb number 3) (codes "the buffer is too short: " ++ needed first)
    (find number plain (codes "this version has no answer " ++ decimal number))))

abbrev pub explained : List ℕ → List ℕ
explained answer = sentence (get_or answer 0 0) (get_or answer 1 0) (get_or answer 2 0) (get_or answer 3 0)

-- text for C: as many bytes as leave room for a 0 byte, and that byte; the bytes behind it are kept
unfoldable pub cut : List ℕ → List ℕ → List ℕ
cut s [] = []
cut s (b ∷ text) = take (min (length s) (length text)) s ++ (0 ∷ drop (min (length s) (length text)) text)
