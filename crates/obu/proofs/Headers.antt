-- The header's table keeps the laws, and a header is one byte or two.
use mathlib.Core.Path.{◌≡◌, refl, sym, ◌∙◌, ap}
use mathlib.Core.List.{◌++◌}
use mathlib.Core.Bool.{Bool, true, false}
use Prim.Native.Nat.{ℕ, suc, ◌+◌, ◌*◌}
use native.Mathlib.Omega.{arith}
use lib.ListN.{length, length-append}
use Rattle.bits.specs.Bits.{Bits}
use Rattle.bits.specs.Walk.{run}
use Rattle.bits.specs.Codec.{flag, absent, allowed, choose, via, ◌▷◌, nil}
use Rattle.bits.specs.Lawful.{Grade, Lawful}
use Rattle.bits.specs.Elements.{obu_type, temporal_id, spatial_id}
use Rattle.bits.proofs.Laws.{wrote-bits, via_law}
use Rattle.bits.proofs.Leaves.{codec_laws, zeros-length, f-length}
use Rattle.obu.specs.Header.{expected_type, Extension, obu_extension_header, header_end, header_table, header_out, header_in, obu_header}
use Rattle.obu.specs.declared.header.ObuHeader.{ObuHeader}

type_law : {g : Grade} (t : ℕ) → Lawful g (expected_type t)
unfolding expected_type
type_law t = search codec_laws depth 12

extension_law : {g : Grade} → Lawful g obu_extension_header
unfolding obu_extension_header
extension_law = search codec_laws depth 12

end_law : {g : Grade} (extended : Bool) → Lawful g (header_end extended)
unfolding header_end
end_law extended = search (codec_laws, extension_law) depth 12

table_law : {g : Grade} (t : ℕ) → Lawful g (header_table t)
unfolding header_table
table_law t = search (codec_laws, type_law, end_law) depth 12

pub header_law : {g : Grade} (t : ℕ) → Lawful g (obu_header t)
unfolding obu_header
header_law t = via_law header_out header_in (table_law t) (λ a. refl)

-- the size flag is coded
pub coded_sized : (t : ℕ) (h : ObuHeader) → ((obu_header t).coded h).has_size_field ≡ h.has_size_field
unfolding obu_header via header_table header_end ◌▷◌ flag
coded_sized t h = refl

pub cut : (x y : Bits) {bs : Bits} → x ++ y ≡ bs → length bs ≡ length x + length y
cut x y e = ap length (sym e) ∙ length-append x y

extension_length : (b : Bool) (a : Extension) (bs : Bits) → (choose b obu_extension_header (absent (0, (0, nil)))).spells a bs → (j : ℕ) × (length bs ≡ j * 8)
unfolding choose ◌▷◌ absent obu_extension_header
extension_length true a bs s = (
  1,
  omega (
    arith,
    cut s.0 s.1 s.4,
    cut s.3.0 s.3.1 s.3.4,
    f-length 3 temporal_id 0 a.0 s.0 s.2,
    f-length 2 spatial_id 0 a.1.0 s.3.0 s.3.2,
    zeros-length 3 a.1.1 s.3.1 s.3.3,
  ),
)
extension_length false a bs s = (0, ap length (sym (wrote-bits s)))

flag-length : (b : Bool) (bs : Bits) → flag.spells b bs → length bs ≡ 1
unfolding flag run
flag-length b bs s = ap length (sym (wrote-bits s))

type_length : (t v : ℕ) (bs : Bits) → (expected_type t).spells v bs → length bs ≡ 4
unfolding expected_type allowed
type_length t v bs s = f-length 4 obu_type 0 v bs s.1

pub header-length : (t : ℕ) (h : ObuHeader) (bs : Bits) → (obu_header t).spells h bs → (j : ℕ) × (length bs ≡ j * 8)
unfolding obu_header via header_table header_end ◌▷◌
header-length t h bs s0 =
    let s1 = s0.3 in
    let s2 = s1.3 in
    let s3 = s2.3 in
    let s4 = s3.3 in
    let x = extension_length _ _ s4.1 s4.3 in (
      suc x.0,
      omega (
        arith,
        cut s0.0 s0.1 s0.4,
        cut s1.0 s1.1 s1.4,
        cut s2.0 s2.1 s2.4,
        cut s3.0 s3.1 s3.4,
        cut s4.0 s4.1 s4.4,
        zeros-length 1 nil s0.0 s0.2,
        type_length t h.obu_type s1.0 s1.2,
        flag-length h.extension_flag s2.0 s2.2,
        flag-length h.has_size_field s3.0 s3.2,
        zeros-length 1 nil s4.0 s4.2,
        x.1,
      ),
    )
