use mathlib.Core.Path.{◌≡◌, refl, sym, ◌∙◌}
use mathlib.Core.Bool.{Bool, true, false}
use mathlib.Core.List.{List}
use Prim.Native.Nat.{ℕ}
use native.Mathlib.Omega.{arith}
use lib.Dec.{eqb}
use lib.Pointwise.{pointwise, bytes_decides}
use Rattle.obu.specs.Delimiter.{delimiter_bytes, IsDelimiter, Tells}
use Rattle.obu.proofs.delimiter.is_temporal_delimiter.Goals as goal

-- what a comparison with the bytes of a delimiter says
module _ {xs ds : List ℕ} {b : Bool} (is : ds ≡ delimiter_bytes true) (h : b ≡ pointwise eqb xs ds) where
  pub first : b ≡ true → Tells true (IsDelimiter xs)
  first e = record { set = λ _. (true, (bytes_decides xs ds).0 (sym h ∙ e) ∙ is); is_set = λ _. refl }

  -- the second string, where the bytes are not the first
  pub second : {es : List ℕ} {r : Bool} → b ≡ false → es ≡ delimiter_bytes false → r ≡ pointwise eqb xs es → Tells r (IsDelimiter xs)
  second {es} {r} n js k = record { set = λ e. (false, (bytes_decides xs es).0 (sym k ∙ e) ∙ js); is_set = told }
    where
      told : IsDelimiter xs → r ≡ true
      told (true, e) = let q = h ∙ (bytes_decides xs ds).1 (e ∙ sym is) in let z : ◌≡◌ {A = ℕ} 0 1 = cc in absurd (omega arith)
      told (false, e) = k ∙ (bytes_decides xs es).1 (e ∙ sym js)

pub returns-then-eq : goal.returns-then-eq
returns-then-eq c = first c.as_slice.ensures c.eq.ensures c.if-eq.true

pub returns : goal.returns
returns c = second c.as_slice.ensures c.eq.ensures c.if-eq.false c.as_slice-2.ensures c.eq-2.ensures
