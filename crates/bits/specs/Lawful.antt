-- The laws of a table: what it writes it reads, what it reads is spelled, and what it does not code never matters.
use Rattle.std.specs.Prelude.{◌≡◌, ◌++◌, ◌+◌, ◌≤◌, length}
use Rattle.bits.specs.Bits.{Bits}
use Rattle.bits.specs.Walk.{wrote, run}
use Rattle.bits.specs.Codec.{Codec, got}

-- es is bs, or shorter by a byte at least
pub data Least (es bs : Bits) : Type 0 where
  same : es ≡ bs → Least es bs
  shorter : length es + 8 ≤ length bs → Least es bs

-- strict: the walk writes the shortest spelling, as an OBU needs; loose: it writes one of them
pub data Grade : Type 0 where
  strict loose : Grade

abbrev pub Wants : Grade → Type 0
Wants strict = Unit {0}
Wants loose = ⊥

pub record Lawful {A : Type 0} (g : Grade) (c : Codec A) : Type 0 where
  -- what is written is a spelling
  pub own : (a : A) (bs : Bits) → run (c.enc a) ≡ wrote bs → c.spells a bs
  -- each spelling is read, whatever stands behind it, and gives what was coded
  pub complete : (a : A) (bs rest : Bits) → c.spells a bs → c.dec (bs ++ rest) ≡ got (c.coded a) rest
  -- what is read was spelled by the bits that were taken
  pub sound : (bs : Bits) (a : A) (rest : Bits) → c.dec bs ≡ got a rest → (front : Bits) × (c.spells a front) × (front ++ rest ≡ bs)
  -- what is not coded never affects the walk
  pub idem : (a : A) → c.coded (c.coded a) ≡ c.coded a
  pub blind : (a : A) → run (c.enc (c.coded a)) ≡ run (c.enc a)
  -- strict: a value with a spelling is written, by its one shortest spelling
  pub least : Wants g → (a : A) (bs : Bits) → c.spells a bs → (es : Bits) × (run (c.enc a) ≡ wrote es) × Least es bs
