-- Where each CDEF parameter stands in the record's numbers, behind the context's.
use Rattle.std.specs.Prelude.{List, ℕ, ◌+◌, ℤ}
use Rattle.bits.specs.Codec.{Codec}
use Rattle.cdef.specs.Cdef.{Strength, Strengths, none, strengths_out, cdef_in, cdef_params}
use Rattle.cdef.specs.declared.record.CdefParams.{CdefParams}
use Rattle.cdef_numbers.specs.Numbers.{cdef_context}
use Rattle.fill.specs.Fills.{natural, of, each, ◌▸◌}
use Rattle.parts_reader.specs.Reading.{In, number_at}

-- a primary and a secondary strength
unfoldable pub strength_place : ℕ → ℕ → In Strength
strength_place pri sec = number_at pri natural ▸ number_at sec natural

unfoldable pub strengths_place : ℕ → In Strengths
strengths_place i = strength_place (6 + i) (14 + i) ▸ strength_place (22 + i) (30 + i)

-- all eight places, of which those that are not coded are 0
unfoldable pub each_place : In (List Strengths)
each_place = each none strengths_place 8 0 8

unfoldable pub cdef_place : In CdefParams
cdef_place =
    of (λ p. (p.cdef_damping, (p.cdef_bits, strengths_out p))) (λ (damping, (bits, ss)). cdef_in damping bits ss)
    (number_at 5 natural ▸ number_at 4 natural ▸ each_place)

-- the table by the context that stands in the numbers
abbrev pub cdef_by : List ℤ → Codec CdefParams
cdef_by ns = cdef_params (cdef_context ns)
