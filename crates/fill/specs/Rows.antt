-- Layouts in an array of numbers, one value behind the other: where each stands follows from what stands before it.
use Rattle.std.specs.Prelude.{Bool, List, ℕ, ◌+◌}
use Rattle.bits.specs.Codec.{Nil, nil}
use Rattle.fill.specs.Fills.{Layout, same, bit, at, of, nowhere}
use Rattle.fill.specs.Fills as layout

-- how many places a value takes, and its layout from a place on
pub record Row (A : Type 0) : Type 0 where
  pub size : ℕ
  pub from : ℕ → Layout (List ℕ) A

-- a number; a flag; nothing
abbrev pub word : Row ℕ
word = record { size = 1; from = λ i. at 0 i same }

abbrev pub flag : Row Bool
flag = record { size = 1; from = λ i. at 0 i bit }

abbrev pub none : Row Nil
none = record { size = 0; from = λ i. nowhere nil }

-- two parts; a struct, as its table's tuple
infixr 35 ◌&◌
abbrev pub ◌&◌ : {A B : Type 0} → Row A → Row B → Row (A × B)
l & k = record { size = l.size + k.size; from = λ i. layout.◌▸◌ (l.from i) (k.from (i + l.size)) }

abbrev pub struct : {A B : Type 0} → (B → A) → (A → B) → Row A → Row B
struct out back l = record { size = l.size; from = λ i. of out back (l.from i) }
