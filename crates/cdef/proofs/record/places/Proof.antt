use mathlib.Core.Path.{◌≡◌}
use Prim.Native.Nat.{ℕ, ◌^◌, ◌≤◌, min}
use native.Mathlib.Omega.{arith}
use lib.Pow.{pow_mono}
use Rattle.cdef.proofs.record.places.Statement.{statement}
use Rattle.cdef.proofs.record.places.Tie as tie

module _ (bits : ℕ) where
  one : bits ≡ 0 → 1 ≡ min (2 ^ bits) 8
  one h = rw h

  two : bits ≡ 1 → 2 ≡ min (2 ^ bits) 8
  two h = rw h

  four : bits ≡ 2 → 4 ≡ min (2 ^ bits) 8
  four h = rw h

  eight : (bits ≡ 0 → ⊥) → (bits ≡ 1 → ⊥) → (bits ≡ 2 → ⊥) → 8 ≡ min (2 ^ bits) 8
  eight a b c =
      let l : 3 ≤ bits = omega arith in
      let h : 2 ^ 3 ≤ 2 ^ bits = pow_mono l in
      omega arith

pub places_spec : {M : Type 1} → statement M
places_spec =
    tie.close
    (tie.spec
    (λ c. search one) (λ c. search two) (λ c. search four) (λ c. search eight))
