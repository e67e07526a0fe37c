-- The temporal delimiter is written as its numbers say.
use mathlib.Core.Path.{◌≡◌, ap}
use mathlib.Core.List.{List}
use Prim.Native.Nat.{ℕ}
use Rattle.bits.specs.Walk.{run}
use Rattle.bits.specs.Written.{Answer}
use Rattle.obu.specs.declared.header.ObuHeader.{ObuHeader}
use Rattle.obu.specs.Delimiter.{temporal_delimiter}
use Rattle.obu.specs.Writer.{Writes}
use Rattle.obu.proofs.Strings.{writes_as}
use Rattle.fill.specs.Fills.{at, of, nowhere, ◌▸◌}
use Rattle.sequence_reader.specs.Layouts.{header_of}
use Rattle.sequence_numbers.specs.Groups as groups

pub delimiter_crosses : {out end : List ℕ} {r : Answer} (xs : List ℕ) {h : ObuHeader} → h ≡ groups.header_of xs → Writes (temporal_delimiter h) out r end → Writes (temporal_delimiter (header_of xs)) out r end
unfolding header_of at of nowhere ◌▸◌
delimiter_crosses xs e w = writes_as (ap (λ (h : ObuHeader). run (temporal_delimiter h)) e) w
