-- What the enums of answers mean: document 01's numbers; and what reading finds, from one place to another.
use Rattle.std.specs.Prelude.{◌≡◌, List, ℕ, min, max, Result, Ok, Err}
use Rattle.bits.specs.Bits.{Bits, from, end}
use Rattle.bits.specs.Codec.{Got, got, stop, Nil}
use Rattle.bits.specs.declared.answer.Refusal.{Refusal}
use Rattle.bits.specs.declared.answer.Refusal.TheVariants.{Inconsistent, Unfit, Short, Ends, Reserved, Size, Trailing, Long}
use Rattle.bits.specs.declared.answer.Numbered.{Numbered}

-- Document 01, "Numbers returned": each refusal's number, and the values that it carries.
abbrev pub plain : ℕ → Numbered
plain n = record { number = n; first = 0; second = 0; third = 0 }

abbrev pub numbered : Refusal → Numbered
numbered (Inconsistent e i) = record { number = 1; first = e; second = i; third = 0 }
numbered (Unfit e i w) = record { number = 2; first = e; second = i; third = w }
numbered (Short n) = record { number = 3; first = n; second = 0; third = 0 }
numbered Ends = plain 4
numbered Reserved = plain 5
numbered Size = plain 6
numbered Trailing = plain 7
numbered Long = plain 8

-- A count goes into a u32, whose largest no walk of a public writer comes near.
abbrev pub capped : ℕ → ℕ
capped n = min n 4294967295

-- what an answer says of the bytes xs: the value and the bits from the place behind it on, or the refusal
unfoldable pub found : {A : Type 0} → List ℕ → Result (A × ℕ) Refusal → Got A
found xs (Ok (a, q)) = got a (from xs q)
found xs (Err y) = stop y

-- a place that came from p: inside the bytes if p was, and p itself if p was behind them
unfoldable pub Moved : {A : Type 0} → List ℕ → ℕ → Result (A × ℕ) Refusal → Type 0
Moved xs p (Ok (a, q)) = max q (end xs) ≡ max p (end xs)
Moved xs p (Err y) = Nil

-- the answer r is what d reads of the bytes xs from the place p on
pub record Reads {A : Type 0} (d : Bits → Got A) (xs : List ℕ) (p : ℕ) (r : Result (A × ℕ) Refusal) : Type 0 where
  pub finds : d (from xs p) ≡ found xs r
  pub moves : Moved xs p r
