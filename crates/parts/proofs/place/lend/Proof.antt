use mathlib.Core.Path.{◌≡◌, ◌∙◌}
use mathlib.Core.List.{List, ◌++◌}
use Prim.Native.Nat.{ℕ, ◌+◌, ◌-◌, ◌/◌, ◌≤◌, ◌<◌}
use native.Mathlib.Omega.{arith}
use lib.ListN.{length, take, drop, length-drop, drop_of_length-le}
use lib.Seq.{drop-length, take_all, take-nil, length-take-le}
use borrow.Author.Rules.{rules}
use Rattle.parts.specs.Settled.{lent}
use Rattle.parts.proofs.place.lend.Statement.{statement}
use Rattle.parts.proofs.place.lend.Tie as tie

module _ (xs : List ℕ) (place : ℕ) (ns : List ℕ) where
  none : length xs ≤ place / 8 → ns ≡ lent xs place ns
  unfolding lent
  none h =
      let z : length xs - place / 8 ≡ 0 = omega arith in
      rw (drop_of_length-le xs {i = place / 8} h, z, take-nil (length ns))

  -- k bytes copied
  module _ (k : ℕ) {ys : List ℕ} (q : ys ≡ take k (drop (place / 8) xs) ++ drop (length (take k (drop (place / 8) xs))) ns) where
    copied : k ≤ length xs - place / 8 → ys ≡ take k (drop (place / 8) xs) ++ drop k ns
    copied h = let n : length (take k (drop (place / 8) xs)) ≡ k = length-take-le k (drop (place / 8) xs) (omega (arith, length-drop (place / 8) xs)) in rw n at q

    -- all that there are
    rest : length xs - place / 8 < length ns → k ≡ length xs - place / 8 → ys ≡ lent xs place ns
    unfolding lent
    rest h e =
        let ds = drop (place / 8) xs in
        let n : length ds ≡ length xs - place / 8 = length-drop (place / 8) xs in
        copied (omega arith) ∙ rw (take_all k ds (omega arith), take_all (length ns) ds (omega arith), e)

    -- as many as the array has
    full : length ns ≤ length xs - place / 8 → k ≡ length ns → ys ≡ lent xs place ns
    unfolding lent
    full h e = copied (omega arith) ∙ rw (e, drop-length ns, drop_of_length-le ns {i = length xs - place / 8} h)

    over : length ns ≤ length xs - place / 8 → k ≡ place / 8 + length ns - place / 8 → ys ≡ lent xs place ns
    over h e = full h (omega arith)

pub lend_spec : {M : Type 1} → statement M
lend_spec =
    tie.close
    (tie.spec
    (λ c. search rules) (λ c. search none) (λ c. search rules)
    (λ c. search rules) (λ c. search rules) (λ c. search rules) (λ c κs. search rules) (λ c. search rules) (λ c. search rest)
    (λ c. search rules)
    (λ c. search rules) (λ c. search rules) (λ c. search rules) (λ c κs. search rules) (λ c. search rules) (λ c. search over))
