-- Which part of the input the payload call hands back.
use Rattle.std.specs.Prelude.{◌≡◌, List, [], ℕ, ◌+◌, ◌-◌, ◌/◌, length, take, drop}
use Rattle.std.specs.Borrow.{Bor}
use Rattle.bits.specs.Bits.{Bits, from}
use Rattle.bits.specs.Codec.{Got, got, stop, and_then}
use Rattle.obu.specs.Header.{obu_header}
use Rattle.obu.specs.Framing.{read_size}
use Rattle.obu.specs.Demand3.{read}
use Rattle.sequence.specs.Sequence.{sequence_header}
use Rattle.sequence_reader.specs.declared.read.Part.{Part}

abbrev pub rest_of : {A : Type 0} → Got A → Bits
rest_of (got a rest) = rest
rest_of (stop r) = []

-- the byte behind the size field, or behind the header if there is none
unfoldable pub behind : List ℕ → ℕ
behind xs = length xs - length (rest_of (and_then ((obu_header 1).dec (from xs 0)) (λ h rest. read_size h.has_size_field rest))) / 8

-- all from there on where the reader accepts; where it refuses, the first zero bytes
abbrev pub part_for : {A : Type 0} → Got A → List ℕ → Part
part_for (got a rest) xs = record { place = behind xs; size = length xs - behind xs }
part_for (stop r) xs = record { place = 0; size = 0 }

unfoldable pub payload_part : List ℕ → Part
payload_part xs = part_for (read sequence_header xs) xs

abbrev pub part : Part → List ℕ → List ℕ
part p xs = take p.size (drop p.place xs)

-- The contract of `payload`: the slice r that it hands back is that part of the slice s itself, in its bytes and in its place. It points into the block
-- that s points into, as many bytes behind the start of s as the part's place says. (A data type and no record, so that a proof search takes it whole.)
pub data Hands (s r : Bor (List ℕ)) : Type 0 where
  hands : r.now ≡ part (payload_part s.now) s.now → r.ref_ptr ≡ (s.ref_ptr.0, (payload_part s.now).place + s.ref_ptr.1) → Hands s r
