-- What the reader of a part answers, and what it leaves in the record's numbers that it is lent: for every table, every place and every slice.
use Rattle.std.specs.Prelude.{◌≡◌, List, true, cond, ℕ, ◌-◌, ◌*◌, ltb, ℤ, pos, length, Result, Ok, Err}
use Rattle.bits.specs.Bits.{from}
use Rattle.bits.specs.Codec.{Codec, Got, got, stop, flag, choose, absent, merged, ◌▷◌}
use Rattle.bits.specs.Codes.{su}
use Rattle.bits.specs.Written.{Answer}
use Rattle.bits.specs.declared.answer.Refusal.{Refusal}
use Rattle.bits.specs.declared.answer.Refusal.TheVariants.{Ends, Long}
use Rattle.reader.specs.declared.BitReader.{BitReader}
use Rattle.fill.specs.Fills.{Layout, Way, at}

-- a layout in a record's numbers, and a value at the place i of them
abbrev pub In : Type 0 → Type 0
In A = Layout (List ℤ) A

abbrev pub number_at : {A : Type 0} → ℕ → Way ℤ A → In A
number_at i w = at (pos 0) i w

-- what a table reads of the bytes xs: the value and the bit behind it, or the refusal
abbrev pub ended : {A : Type 0} → List ℕ → Got A → Result (A × ℕ) Refusal
ended xs (got a rest) = Ok (a, length xs * 8 - length rest)
ended xs (stop r) = Err r

-- a slice over 65,536 bytes, and then a place beyond the slice, are refused before a bit is read
unfoldable pub read_part : {A : Type 0} → Codec A → ℕ → List ℕ → Result (A × ℕ) Refusal
read_part c place xs = cond (ltb 65536 (length xs)) (Err Long) (cond (ltb (length xs * 8) place) (Err Ends) (ended xs (c.dec (from xs place))))

-- the answer, and what the record's numbers are, which were m: the value put into them, or m itself
pub record Told (M : Type 0) : Type 0 where
  pub answer : Answer
  pub numbers : M

abbrev pub told : {A M : Type 0} → Layout M A → M → Result (A × ℕ) Refusal → Told M
told l m (Ok (a, q)) = record { answer = Ok q; numbers = l.put a m }
told l m (Err r) = record { answer = Err r; numbers = m }

-- The contract of every part's reader.
-- (One constructor over its two equations, and no record, so that a proof search takes it whole.)
pub data Tells {A M : Type 0} (l : Layout M A) (c : Codec A) (place : ℕ) (xs : List ℕ) (m : M) (r : Answer) (n : M) : Type 0 where
  tells : r ≡ (told l m (read_part c place xs)).answer → n ≡ (told l m (read_part c place xs)).numbers → Tells l c place xs m r n

-- Where reading begins: only the contract of a function inside cites this.
abbrev pub beginning : BitReader → Result BitReader Refusal
beginning r = cond (ltb 65536 (length r.bytes.now)) (Err Long) (cond (ltb (length r.bytes.now * 8) r.at) (Err Ends) (Ok r))

pub data Begins (r : BitReader) (g : Result BitReader Refusal) : Type 0 where
  begins : g ≡ beginning r → Begins r g

-- The deltas of 5.9.11 and of 5.9.13, as they are read: where the flag is clear, the old one.
unfoldable pub delta : ℤ → Codec ℤ
delta old = merged (λ z. (true, z)) (λ p. cond p.0 p.1 old) (flag ▷ λ coded. choose coded (su 7 0 0) (absent (pos 0)))
