-- The OBU header (5.3.2) and its extension (5.3.3), of an OBU that is to have the type t.
use Rattle.std.specs.Prelude.{Bool, ℕ, eqb}
use Rattle.bits.specs.Elements.{obu_type, temporal_id, spatial_id}
use Rattle.bits.specs.Codec.{Codec, f, flag, zeros, absent, allowed, choose, via, ◌▷◌, Nil, nil}
use Rattle.bits.specs.declared.answer.Refusal.TheVariants.{Inconsistent}
use Rattle.obu.specs.declared.header.ObuHeader.{ObuHeader}

-- obu_type: any other type is refusal 1, also one that does not fit
unfoldable pub expected_type : ℕ → Codec ℕ
expected_type t = allowed (λ v. eqb v t) (Inconsistent obu_type 0) (f 4 obu_type 0)

-- temporal_id, spatial_id, extension_header_reserved_3bits
abbrev pub Extension : Type 0
Extension = ℕ × (ℕ × Nil)

unfoldable pub obu_extension_header : Codec Extension
obu_extension_header = f 3 temporal_id 0 ▷ λ _. f 2 spatial_id 0 ▷ λ _. zeros 3

-- obu_has_size_field, obu_reserved_1bit, and the extension, if there is one
abbrev pub Ending : Type 0
Ending = Bool × (Nil × Extension)

unfoldable pub header_end : Bool → Codec Ending
header_end extended =
    flag ▷ λ _.
    zeros 1 ▷ λ _.
    choose extended obu_extension_header (absent (0, (0, nil)))

-- obu_forbidden_bit, obu_type, obu_extension_flag, and the rest
abbrev pub Fields : Type 0
Fields = Nil × (ℕ × (Bool × Ending))

unfoldable pub header_table : ℕ → Codec Fields
header_table t =
    zeros 1 ▷ λ _.
    expected_type t ▷ λ _.
    flag ▷ λ extended.
    header_end extended

-- the struct's fields, in the table's order, and back
abbrev pub extension_of : ObuHeader → Extension
extension_of h = (h.temporal_id, (h.spatial_id, nil))

abbrev pub end_of : ObuHeader → Ending
end_of h = (h.has_size_field, (nil, extension_of h))

abbrev pub header_out : ObuHeader → Fields
header_out h = (nil, (h.obu_type, (h.extension_flag, end_of h)))

abbrev pub header_with : ℕ → Bool → Bool → Extension → ObuHeader
header_with kind extended sized = λ (temporal, (spatial, _)). record { obu_type = kind; extension_flag = extended; has_size_field = sized; temporal_id = temporal; spatial_id = spatial }

abbrev pub end_with : ℕ → Bool → Ending → ObuHeader
end_with kind extended = λ (sized, (_, ids)). header_with kind extended sized ids

abbrev pub header_in : Fields → ObuHeader
header_in = λ (_, (kind, (extended, rest))). end_with kind extended rest

unfoldable pub obu_header : ℕ → Codec ObuHeader
obu_header t = via header_out header_in (header_table t)
