-- What request 1 asks of a part's reader, over its table.
use Rattle.std.specs.Prelude.{◌≡◌, List, ◌++◌, ℕ, ◌+◌, ◌*◌, ◌<◌, ◌≤◌, length, Ok, Err}
use Rattle.bits.specs.Bits.{Bits, from}
use Rattle.bits.specs.Walk.{wrote, run}
use Rattle.bits.specs.Codec.{Codec}
use Rattle.bits.specs.declared.answer.Refusal.{Refusal}
use Rattle.bits.specs.declared.answer.Refusal.TheVariants.{Ends, Long}
use Rattle.parts.specs.Written.{Writes}
use Rattle.parts_reader.specs.Reading.{read_part}

-- What was read from a place on is all coded, and is written again: by bits that stand in the relation R to those that were read.
pub record Back {A : Type 0} (R : Bits → Bits → Type 0) (c : Codec A) (place : ℕ) (xs : List ℕ) (a : A) (q : ℕ) : Type 0 where
  pub few : length xs ≤ 65536
  pub front : Bits
  pub again : Bits
  pub stood : from xs place ≡ front ++ from xs q
  pub behind : q ≡ place + length front
  pub inside : q ≤ length xs * 8
  pub writes : run (c.enc a) ≡ wrote again
  pub alike : R again front
  pub all : c.coded a ≡ a

pub record Over {A : Type 0} (c : Codec A) : Type 0 where
  -- 8 exactly of a slice that is too long; else 4, and nothing else
  pub too_long : (place : ℕ) (xs : List ℕ) → 65536 < length xs → read_part c place xs ≡ Err Long
  pub ends : (place : ℕ) (xs : List ℕ) → length xs ≤ 65536 → {y : Refusal} → read_part c place xs ≡ Err y → y ≡ Ends
  -- whatever the writer accepts is read at its place: what was coded, up to the same bit, whatever stands before and behind
  pub reads_back : (a : A) (place : ℕ) (xs ys : List ℕ) (n : ℕ) → Writes (c.enc a) place xs (Ok n) ys → read_part c place ys ≡ Ok (c.coded a, n)

pub record OverAndBack {A : Type 0} (R : Bits → Bits → Type 0) (c : Codec A) : Type 0 where
  pub over : Over c
  -- whatever is read is written again
  pub writes_back : (place : ℕ) (xs : List ℕ) (a : A) (q : ℕ) → read_part c place xs ≡ Ok (a, q) → Back R c place xs a q
