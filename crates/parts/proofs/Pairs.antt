-- Two arrays as one of pairs.
use mathlib.Core.Path.{◌≡◌, refl, ap}
use mathlib.Core.List.{List, [], ◌∷◌}
use Prim.Native.Nat.{ℕ, zero, suc}
use lib.ListN.{get_or}
use Rattle.parts.specs.Codes.{zip, firsts, seconds}

module _ {A B : Type 0} (a : A) (b : B) where
  pub zip-at : (xs : List A) (ys : List B) (i : ℕ) → get_or (zip a b xs ys) i (a, b) ≡ (get_or xs i a, get_or ys i b)
  unfolding zip
  zip-at [] [] i = refl
  zip-at (x ∷ xs) [] zero = refl
  zip-at (x ∷ xs) [] (suc i) = zip-at xs [] i
  zip-at [] (y ∷ ys) zero = refl
  zip-at [] (y ∷ ys) (suc i) = zip-at [] ys i
  zip-at (x ∷ xs) (y ∷ ys) zero = refl
  zip-at (x ∷ xs) (y ∷ ys) (suc i) = zip-at xs ys i

  pub zip-back : (ps : List (A × B)) → zip a b (firsts ps) (seconds ps) ≡ ps
  unfolding zip firsts seconds
  zip-back [] = refl
  zip-back (p ∷ ps) = ap (λ (r : List (A × B)). p ∷ r) (zip-back ps)
