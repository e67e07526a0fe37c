-- The names in a list and in a table: the same at each number, by a test that antt computes, and none beyond.
use Rattle.std.proofs.Common.{◌≡◌, refl, ◌∙◌, Bool, true, ◌&&◌, ℕ, zero, suc, ◌+◌, ◌≤◌, ◌<◌, ltb, eqb, cond, List, [], ◌∷◌, length, get_or, arith}
use Rattle.std.specs.Str.{bytes_eq}
use Rattle.std.proofs.lemmas.Grind.{common_steps}
use Rattle.std.proofs.lemmas.Bool.Decides.{nat_tests}
use Rattle.std.proofs.lemmas.Slice.Eq.{bytes_eq-Decides}
use Prim.Native.String.{String}
use Rattle.words.specs.Listed.{word}
use Rattle.words.specs.Text.{codes, find}

-- every number of a table is below n
abbrev pub under : ℕ → List (ℕ × String) → Bool
under n [] = true
under n ((k, s) ∷ rows) = ltb k n && under n rows

-- every text of a table has a byte
unfoldable pub all_filled : List (ℕ × String) → Bool
all_filled [] = true
all_filled ((k, s) ∷ rows) = ltb 0 (length (codes s)) && all_filled rows

-- whether the words are what a table has at the numbers from k on
abbrev pub agrees : List (ℕ × String) → ℕ → List (List ℕ) → Bool
agrees rows k [] = true
agrees rows k (w ∷ words) = bytes_eq w (find k rows []) && agrees rows (suc k) words

find_beyond : (n : ℕ) (rows : List (ℕ × String)) (e : ℕ) → under n rows ≡ true → n ≤ e → find e rows [] ≡ []
unfolding find
find_beyond n [] e t h = refl
find_beyond n ((k, s) ∷ rows) e t h = grind (arith, nat_tests, find_beyond n rows e)

agreed : (rows : List (ℕ × String)) (k : ℕ) (words : List (List ℕ)) (j : ℕ) → agrees rows k words ≡ true → j < length words → get_or words j [] ≡ find (k + j) rows []
agreed rows k [] j t h = absurd (omega arith)
agreed rows k (w ∷ words) zero t h = grind (arith, nat_tests, bytes_eq-Decides w (find k rows []))
agreed rows k (w ∷ words) (suc j) t h =
    let e : k + suc j ≡ suc k + j = omega arith in
    rw e (grind (arith, nat_tests, agreed rows (suc k) words j))

unfoldable pub all_agree : List (ℕ × String) → List (List ℕ) → Bool
all_agree rows words = agrees rows 0 words && under (length words) rows

agreed_or : (rows : List (ℕ × String)) (words : List (List ℕ)) (e : ℕ) → agrees rows 0 words && under (length words) rows ≡ true → get_or words e [] ≡ find e rows []
agreed_or rows words e t = grind (arith, nat_tests, common_steps, agreed rows 0 words e, find_beyond (length words) rows e)

-- a list of words has the names of a table, and no other
pub listed : (rows : List (ℕ × String)) (words : List (List ℕ)) (e : ℕ) (w : List ℕ) → w ≡ word e words → all_agree rows words ≡ true → w ≡ find e rows []
unfolding word all_agree
listed rows words e w h t = h ∙ agreed_or rows words e t

-- what is found, or something other where nothing is
pub found : (rows : List (ℕ × String)) (e : ℕ) (other : List ℕ) → all_filled rows ≡ true → find e rows other ≡ cond (eqb (length (find e rows [])) 0) other (find e rows [])
unfolding find all_filled
found [] e other t = refl
found ((k, s) ∷ rows) e other t = grind (arith, nat_tests, found rows e other)
