-- What several parts' tables are made of.
use Rattle.std.specs.Prelude.{◌≡◌, List, [], ◌∷◌, Bool, false, cond, ℕ, ◌^◌, eqb, ℤ, pos, negsuc}
use Rattle.std.specs.Int.Signed.{lt_z}
use Rattle.bits.specs.Widths.{bit_length}
use Rattle.bits.specs.Walk.{demand}
use Rattle.bits.specs.Codec.{Codec, got, and_then, single, field_as}
use Rattle.bits.specs.declared.answer.Refusal.TheVariants.{Inconsistent, Unfit}

-- whether two signed numbers are the same
abbrev pub same : ℤ → ℤ → Bool
same (pos a) (pos b) = eqb a b
same (pos a) (negsuc b) = false
same (negsuc a) (pos b) = false
same (negsuc a) (negsuc b) = eqb a b

-- nothing is coded, and the number must be x
unfoldable pub inferred_signed : ℕ → ℤ → Codec ℤ
inferred_signed e x = single (λ z. demand (same z x) (Inconsistent e 0)) (λ bs. got x bs)

-- f(width) of a signed number that is not below 0; one below goes to 2^width, which no field of that width holds
abbrev pub natural_out : ℕ → ℤ → ℕ
natural_out width (pos m) = m
natural_out width (negsuc m) = 2 ^ width

unfoldable pub natural : ℕ → ℕ → ℕ → Codec ℤ
natural width e i = field_as width (natural_out width) pos (λ z. Unfit e i (bit_length (natural_out width z)))

-- a number held between two others
unfoldable pub clip : ℤ → ℤ → ℤ → ℤ
clip low high z = cond (lt_z z low) low (cond (lt_z high z) high z)

-- a value that is clipped before it is written and after it is read
unfoldable pub trimmed : {A : Type 0} → (A → A) → Codec A → Codec A
trimmed {A} trim c = record {
  enc = λ a. c.enc (trim a);
  dec = λ bs. and_then (c.dec bs) (λ a rest. got (trim a) rest);
  coded = trim;
  spells = λ a bs. (b : A) × (trim b ≡ trim a) × c.spells b bs;
}

-- two arrays as one of pairs, the shorter one filled up, and back
unfoldable pub zip : {A B : Type 0} → A → B → List A → List B → List (A × B)
zip a b [] [] = []
zip a b (x ∷ xs) [] = (x, b) ∷ zip a b xs []
zip a b [] (y ∷ ys) = (a, y) ∷ zip a b [] ys
zip a b (x ∷ xs) (y ∷ ys) = (x, y) ∷ zip a b xs ys

unfoldable pub firsts : {A B : Type 0} → List (A × B) → List A
firsts [] = []
firsts (p ∷ ps) = p.0 ∷ firsts ps

unfoldable pub seconds : {A B : Type 0} → List (A × B) → List B
seconds [] = []
seconds (p ∷ ps) = p.1 ∷ seconds ps
