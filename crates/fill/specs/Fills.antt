-- The contract of every function that reads into a place that it is lent, and how a value lies in a place.
use Rattle.std.specs.Prelude.{Bool, not, cond, List, [], ◌∷◌, ℕ, zero, suc, eqb, ltb, get_or, set, ℤ, pos, negsuc, Result, Ok, Err}
use mir.Val.{bool_byte}
use Rattle.bits.specs.Bits.{Bits}
use Rattle.bits.specs.Codec.{Got, got, and_then, uncons, Nil}
use Rattle.bits.specs.declared.answer.Refusal.{Refusal}
use Rattle.reader.specs.declared.BitReader.{BitReader}
use Rattle.reader.specs.Reading.{Said}

-- How a value is held as an element of an array, and what an element is held to be.
pub record Way (N A : Type 0) : Type 0 where
  pub to : A → N
  pub back : N → A

-- itself; a flag as 1 or 0, where any number but 0 sets it; both among numbers with a sign, where a number below 0 is held to be the largest
abbrev pub same : {A : Type 0} → Way A A
same = record { to = λ a. a; back = λ a. a }

abbrev pub bit : Way ℕ Bool
bit = record { to = bool_byte; back = λ n. not (eqb n 0) }

abbrev pub unsigned : ℤ → ℕ
unsigned (pos n) = n
unsigned (negsuc n) = 4294967295

abbrev pub natural : Way ℤ ℕ
natural = record { to = pos; back = unsigned }

abbrev pub signed_bit : Way ℤ Bool
signed_bit = record { to = λ b. pos (bool_byte b); back = λ z. not (eqb (unsigned z) 0) }

-- A layout: what a place that held m holds once the value a is put into it, and which value a place holds.
pub record Layout (M A : Type 0) : Type 0 where
  pub put : A → M → M
  pub get : M → A

-- a value in a place of its own, or at place i of an array (z, where the array is shorter)
unfoldable pub made : {N A : Type 0} → Way N A → Layout N A
made w = record { put = λ a m. w.to a; get = w.back }

unfoldable pub at : {N A : Type 0} → N → ℕ → Way N A → Layout (List N) A
at z i w = record { put = λ a ns. set ns i (w.to a); get = λ ns. w.back (get_or ns i z) }

abbrev pub whole : {A : Type 0} → Layout A A
whole = made same

abbrev pub flagged : Layout ℕ Bool
flagged = made bit

-- two parts, one behind the other; the places of the second may go by the first
infixr 35 ◌▸◌
unfoldable pub ◌▸◌ : {M A B : Type 0} → Layout M A → Layout M B → Layout M (A × B)
l ▸ k = record { put = λ p m. k.put p.1 (l.put p.0 m); get = λ m. (l.get m, k.get m) }

infixr 35 ◌▹◌
unfoldable pub ◌▹◌ : {M A B : Type 0} → Layout M A → (A → Layout M B) → Layout M (A × B)
l ▹ k = record { put = λ p m. (k p.0).put p.1 (l.put p.0 m); get = λ m. (l.get m, (k (l.get m)).get m) }

-- a struct, as its table's tuple
unfoldable pub of : {M A B : Type 0} → (B → A) → (A → B) → Layout M A → Layout M B
of out back l = record { put = λ b m. l.put (out b) m; get = λ m. back (l.get m) }

-- two parts in two places
infixr 35 ◌∥◌
unfoldable pub ◌∥◌ : {M N A B : Type 0} → Layout M A → Layout N B → Layout (M × N) (A × B)
l ∥ k = record { put = λ p m. (l.put p.0 m.0, k.put p.1 m.1); get = λ m. (l.get m.0, k.get m.1) }

-- no place: the value is z
unfoldable pub nowhere : {M A : Type 0} → A → Layout M A
nowhere z = record { put = λ a m. m; get = λ m. z }

-- the items from i on of an array that has k more, as its table has them: those below n have a place each, the others are z
unfoldable pub each : {M A : Type 0} → A → (ℕ → Layout M A) → ℕ → ℕ → ℕ → Layout M (List A)
each z l zero i n = nowhere []
each z l (suc k) i n = of (uncons z) (λ p. p.0 ∷ p.1) (cond (ltb i n) (l i) (nowhere z) ▸ each z l k (suc i) n)

-- an answer that has no value of its own, and what it left in the place
abbrev pub beside : {M : Type 0} → Result Nil Refusal → M → Result M Refusal
beside (Ok u) m = Ok m
beside (Err y) m = Err y

-- d reads a value, the reader goes on behind it, and the place, which held m, holds n: the value put into m. Or d reads none, and g is its refusal, which
-- says nothing of n.
pub data Fills {A M : Type 0} (l : Layout M A) (d : Bits → Got A) (old new : BitReader) (g : Result Nil Refusal) (m n : M) : Type 0 where
  fills : Said (λ bs. and_then (d bs) (λ a rest. got (l.put a m) rest)) old new (beside g n) → Fills l d old new g m n
