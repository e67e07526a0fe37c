use mathlib.Core.Path.{◌≡◌}
use Prim.Native.Nat.{ℕ, ◌+◌, ◌*◌, ◌≤◌, ◌<◌}
use borrow.Author.Rules.{rules}
use borrow.Author.Tests.{lt-ltb, le-ltb, eq-eqb, ne_eqb}
use Rattle.cdef.specs.Packed.{packed}
use Rattle.cdef.proofs.packed.packed.Statement.{statement}
use Rattle.cdef.proofs.packed.packed.Tie as tie

module _ (p s : ℕ) where
  low : p < 16 → s < 3 → p * 4 + s ≡ packed p s
  unfolding packed
  low h k = rw (lt-ltb p 16 h, lt-ltb s 3 k)

  four : p < 16 → 3 ≤ s → s ≡ 4 → p * 4 + 3 ≡ packed p s
  unfolding packed
  four h k e = rw (lt-ltb p 16 h, le-ltb s 3 k, eq-eqb s 4 e)

  other : p < 16 → 3 ≤ s → (s ≡ 4 → ⊥) → 64 ≡ packed p s
  unfolding packed
  other h k e = rw (lt-ltb p 16 h, le-ltb s 3 k, ne_eqb s 4 e)

  large : 16 ≤ p → 64 ≡ packed p s
  unfolding packed
  large h = rw (le-ltb p 16 h)

pub packed_spec : {M : Type 1} → statement M
packed_spec =
    tie.close
    (tie.spec
    (λ c. search rules) (λ c. search rules) (λ c. search low)
    (λ c. search rules) (λ c. search rules) (λ c. search four)
    (λ c. search (other, large)) (λ c. search (other, large)))
