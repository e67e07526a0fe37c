-- The temporal delimiter: without extension it is a byte string, and it has few bits.
use mathlib.Core.Path.{◌≡◌, refl, sym, ◌∙◌, ap}
use mathlib.Core.List.{List}
use mathlib.Core.Bool.{Bool, true, false, not}
use Prim.Native.Nat.{ℕ}
use borrow.Author.Tests.{not-true}
use lib.Dec.{lit≤, lit<}
use Rattle.bits.specs.Bits.{bits_of, to_bits, bit_at}
use Rattle.bits.specs.Walk.{wrote, run, join, bound}
use Rattle.bits.specs.Codec.{◌▷◌, choose, via, allowed, f, flag, zeros, absent, merged, nil}
use Rattle.bits.specs.Codes.{leb128, leb_step, too_long}
use Rattle.bits.specs.Written.{Answer}
use Rattle.bits.proofs.Counting.{Few, few_by}
use Rattle.obu.specs.declared.header.ObuHeader.{ObuHeader}
use Rattle.obu.specs.Header.{expected_type, obu_extension_header, header_end, header_table, obu_header}
use Rattle.obu.specs.Framing.{obu_size}
use Rattle.obu.specs.Writer.{Writes}
use Rattle.obu.specs.Delimiter.{temporal_delimiter, delimiter_bytes, octets, Tells}
use Rattle.obu.specs.Demand3.{AreBytes}
use Rattle.obu.proofs.Strings.{octets-run, writes_as}

pub delimiter_bytes_lem : (sized : Bool) → AreBytes (delimiter_bytes sized)
delimiter_bytes_lem true = (lit< tt, (lit< tt, nil))
delimiter_bytes_lem false = (lit< tt, nil)

abbrev pub plain : Bool → ℕ → ℕ → ObuHeader
plain sized t s = record { obu_type = 2; extension_flag = false; has_size_field = sized; temporal_id = t; spatial_id = s }

pub run-plain : (sized : Bool) (t s : ℕ) → run (temporal_delimiter (plain sized t s)) ≡ wrote (bits_of (delimiter_bytes sized))
unfolding temporal_delimiter obu_header header_table header_end expected_type ◌▷◌ choose via allowed f flag zeros absent obu_size leb128 merged leb_step run join to_bits bit_at bits_of
run-plain true t s = refl
run-plain false t s = refl

pub plain-run : (h : ObuHeader) → h.obu_type ≡ 2 → h.extension_flag ≡ false → run (temporal_delimiter h) ≡ wrote (bits_of (delimiter_bytes h.has_size_field))
plain-run h t e =
    let p : h ≡ plain h.has_size_field h.temporal_id h.spatial_id =
    λ i. record { obu_type = t i; extension_flag = e i; has_size_field = h.has_size_field; temporal_id = h.temporal_id; spatial_id = h.spatial_id } in
    ap (λ (z : ObuHeader). run (temporal_delimiter z)) p ∙ run-plain h.has_size_field h.temporal_id h.spatial_id

pub plain_writes : (h : ObuHeader) {xs ys : List ℕ} {a : Answer} → h.obu_type ≡ 2 → not h.extension_flag ≡ true → Writes (octets (delimiter_bytes h.has_size_field)) xs a ys
    → Writes (temporal_delimiter h) xs a ys
plain_writes h t e w =
    let sized = h.has_size_field in
    writes_as (octets-run (delimiter_bytes sized) (delimiter_bytes_lem sized) ∙ sym (plain-run h t (not-true h.extension_flag e))) w

pub few : (h : ObuHeader) → Few 2000000 (temporal_delimiter h)
unfolding bound temporal_delimiter obu_header header_table header_end expected_type obu_extension_header ◌▷◌ choose via allowed f flag zeros absent obu_size leb128 too_long merged leb_step
few h = few_by (lit≤ tt)

-- one answer
pub tells_only : (r s : Bool) {P : Type 0} → Tells r P → Tells s P → r ≡ s
tells_only true s a b = sym (b.is_set (a.set refl))
tells_only false true a b = a.is_set (b.set refl)
tells_only false false a b = refl
