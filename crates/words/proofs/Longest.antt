-- No sentence is longer than 104 bytes.
use Rattle.std.proofs.Common.{◌≡◌, refl, Bool, true, false, cond, ◌&&◌, List, [], ◌∷◌, ◌++◌, ℕ, zero, suc, ◌+◌, ◌/◌, ◌^◌, ◌≤◌, ◌<◌, eqb, leb, length, length-append, arith}
use Rattle.std.proofs.lemmas.Bool.Decides.{nat_tests}
use Prim.Native.String.{String}
use native.Mathlib.Nat.{pow-suc}
use Rattle.words.specs.Names.{names, element, has_index}
use Rattle.words.specs.Sentence.{place, counted, needed, bits_needed, plain, sentence}
use Rattle.words.specs.Text.{codes, find, digits, decimal}

few : (j k n : ℕ) → n < 10 ^ suc j → length (digits k n) ≤ suc j
unfolding digits
few j zero n h = omega arith
few zero (suc k) n h = grind (arith, nat_tests)
few (suc j) (suc k) n h =
    let l : n / 10 < 10 ^ suc j = omega (arith, pow-suc 10 (suc j)) in
    grind (arith, nat_tests, length-append {A = ℕ}, few j k (n / 10) l)

digits_of : (n : ℕ) → n < 2 ^ 32 → length (decimal n) ≤ 10
digits_of n h = few 9 20 n (omega arith)

-- every text of a table has at most m bytes
unfoldable fits : ℕ → List (ℕ × String) → Bool
fits m [] = true
fits m ((k, s) ∷ rows) = leb (length (codes s)) m && fits m rows

find_fits : (m : ℕ) (rows : List (ℕ × String)) (n : ℕ) (other : List ℕ) → fits m rows ≡ true → length other ≤ m → length (find n rows other) ≤ m
unfolding find fits
find_fits m [] n other t h = h
find_fits m ((k, s) ∷ rows) n other t h = grind (arith, nat_tests, find_fits m rows n other)

either_fits : (m : ℕ) (t : Bool) (a b : List ℕ) → length a ≤ m → length b ≤ m → length (cond t a b) ≤ m
either_fits m true a b h k = h
either_fits m false a b h k = k

element_fits : (e : ℕ) → e < 2 ^ 32 → length (element e) ≤ 41
unfolding element names fits
element_fits e h = find_fits 41 names e (codes "element " ++ decimal e) refl (omega (arith, digits_of e h))

place_fits : (n e i : ℕ) → e < 2 ^ 32 → i < 2 ^ 32 → length (place n e i) ≤ 53
unfolding place
place_fits n e i h k =
    rw length-append (omega (
      arith,
      element_fits e h,
      either_fits 12 (has_index n e) (codes "[" ++ decimal i ++ codes "]") [] (omega (arith, digits_of i k, length-append (decimal i) (codes "]"))) (omega arith),
    ))

counted_fits : (n m : ℕ) (one many : List ℕ) → n < 2 ^ 32 → length one ≤ 10 + m → length many ≤ m → length (counted n one many) ≤ 10 + m
unfolding counted
counted_fits n m one many h k l = either_fits (10 + m) (eqb n 1) one (decimal n ++ many) k (omega (arith, digits_of n h, length-append (decimal n) many))

needed_fits : (n : ℕ) → n < 2 ^ 32 → length (needed n) ≤ 27
unfolding needed
needed_fits n h = counted_fits n 17 (codes "1 byte is needed") (codes " bytes are needed") h (omega arith) (omega arith)

bits_fits : (w : ℕ) → w < 2 ^ 32 → length (bits_needed w) ≤ 26
unfolding bits_needed
bits_fits w h =
    either_fits 26 (eqb w 0) (codes "no width helps") (counted w (codes "1 bit is needed") (codes " bits are needed")) (omega arith)
    (counted_fits w 16 (codes "1 bit is needed") (codes " bits are needed") h (omega arith) (omega arith))

unfit_fits : (w : ℕ) → w < 2 ^ 32 → length (codes " does not fit its field: " ++ bits_needed w) ≤ 51
unfit_fits w h = rw length-append (omega (arith, bits_fits w h))

pub longest : (n first second third : ℕ) → n < 2 ^ 32 → first < 2 ^ 32 → second < 2 ^ 32 → third < 2 ^ 32 → length (sentence n first second third) ≤ 104
unfolding sentence plain fits
longest n first second third h k l m =
    either_fits 104 (eqb n 1) (place 1 first second ++ codes " is inconsistent")
    (cond (eqb n 2) (place 2 first second ++ (codes " does not fit its field: " ++ bits_needed third))
    (cond (eqb n 3) (codes "the buffer is too short: " ++ needed first)
    (find n plain (codes "this version has no answer " ++ decimal n))))
    (omega (arith, place_fits 1 first second k l, length-append (place 1 first second) (codes " is inconsistent")))
    (either_fits 104 (eqb n 2) (place 2 first second ++ (codes " does not fit its field: " ++ bits_needed third))
    (cond (eqb n 3) (codes "the buffer is too short: " ++ needed first)
    (find n plain (codes "this version has no answer " ++ decimal n)))
    (omega (arith, place_fits 2 first second k l, unfit_fits third m, length-append (place 2 first second) (codes " does not fit its field: " ++ bits_needed third)))
    (either_fits 104 (eqb n 3) (codes "the buffer is too short: " ++ needed first)
    (find n plain (codes "this version has no answer " ++ decimal n))
    (omega (arith, needed_fits first k))
    (find_fits 104 plain n (codes "this version has no answer " ++ decimal n) refl (omega (arith, digits_of n h)))))
