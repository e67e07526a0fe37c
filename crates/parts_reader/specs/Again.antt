-- What is read is written again: how the bits that are written stand to those that were read.
use Rattle.std.specs.Prelude.{◌≡◌, ◌++◌, ◌≤◌, length}
use Rattle.bits.specs.Bits.{Bits}
use Rattle.bits.specs.Walk.{wrote, run}
use Rattle.bits.specs.Codec.{Codec, got}

-- the same bits
abbrev pub Same : Bits → Bits → Type 0
Same es bs = es ≡ bs

-- no more bits, and the same where they are as many; and no fewer
abbrev pub Shorter : Bits → Bits → Type 0
Shorter es bs = (length es ≤ length bs) × (length es ≡ length bs → es ≡ bs)

abbrev pub Longer : Bits → Bits → Type 0
Longer es bs = (length bs ≤ length es) × (length es ≡ length bs → es ≡ bs)

-- Of the bits bs the value a was read, and rest is left: it is all coded, and is written by some bits, which stand in the relation R to those that were read.
pub record Again {A : Type 0} (R : Bits → Bits → Type 0) (c : Codec A) (bs : Bits) (a : A) (rest : Bits) : Type 0 where
  pub front : Bits
  pub again : Bits
  pub taken : front ++ rest ≡ bs
  pub writes : run (c.enc a) ≡ wrote again
  pub alike : R again front
  pub all : c.coded a ≡ a

-- so it is of whatever the table reads
pub data Rewrites {A : Type 0} (R : Bits → Bits → Type 0) (c : Codec A) : Type 0 where
  rewrites : ((bs : Bits) (a : A) (rest : Bits) → c.dec bs ≡ got a rest → Again R c bs a rest) → Rewrites R c
