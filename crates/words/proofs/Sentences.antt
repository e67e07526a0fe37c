-- The parts of a sentence, and its place in a slice.
use Rattle.std.proofs.Common.{◌≡◌, eqb, false, List, [], ◌∷◌, ◌++◌, ℕ, ◌-◌, ◌<◌, min, length, take, drop, set, get_or, arith}
use Rattle.std.proofs.Math.Seq.{set_at, length-take-le, drop-cons}
use Rattle.std.proofs.lemmas.Bool.Decides.{nat_tests}
use Rattle.words.specs.Sentence.{plain, sentence, cut}
use Rattle.words.specs.Text.{codes, find, decimal}

pub no_answer : (n first second third : ℕ) → 8 < n → sentence n first second third ≡ codes "this version has no answer " ++ decimal n
unfolding sentence find plain
no_answer n first second third h = grind (arith, nat_tests)

pub cut_at : (s text : List ℕ) (n : ℕ) → n ≡ min (length s) (length text - 1) → eqb (length text) 0 ≡ false → set (take n s ++ drop n text) n 0 ≡ cut s text
unfolding cut
cut_at s [] n e h = cc
cut_at s (b ∷ text) n e h =
    let m : min (length s) (length text) ≡ n = omega arith in
    rw (m, drop-cons (b ∷ text) n 0 (omega arith)) (set_at (take n s) (get_or (b ∷ text) n 0) (drop n text) 0 n (length-take-le n s (omega arith)))
