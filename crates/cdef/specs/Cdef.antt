-- 5.9.19: the parameters of the constrained directional enhancement filter. Each table is the contract of the writer's function of its name.
use Rattle.std.specs.Prelude.{List, cond, not, ◌||◌, ℕ, ◌+◌, ◌-◌, ◌^◌, eqb, ltb}
use Rattle.bits.specs.Codec.{Codec, field_as, f, absent, inferred, choose, checked, via, array, ◌▷◌}
use Rattle.bits.specs.Elements.{cdef_bits, cdef_y_pri_strength, cdef_y_sec_strength, cdef_uv_pri_strength, cdef_uv_sec_strength, cdef_damping}
use Rattle.bits.specs.declared.answer.Refusal.TheVariants.{Inconsistent, Unfit}
use Rattle.parts.specs.Codes.{zip, firsts, seconds}
use Rattle.cdef.specs.declared.record.CdefParams.{CdefParams}
use Rattle.cdef.specs.declared.record.CdefContext.{CdefContext}

-- the damping is 3 to 6, and coded less 3; a smaller one goes to 4, which two bits do not hold. No width helps, and the refusal says 0.
abbrev pub damping_out : ℕ → ℕ
damping_out v = cond (ltb v 3) 4 (v - 3)

abbrev pub damping_in : ℕ → ℕ
damping_in v = v + 3

unfoldable pub damping : Codec ℕ
damping = field_as 2 damping_out damping_in (λ _. Unfit cdef_damping 0 0)

-- a secondary strength of 4 is coded as 3, and 3 is forbidden: the two change places. No width helps here either.
abbrev pub swapped : ℕ → ℕ
swapped v = cond (eqb v 4) 3 (cond (eqb v 3) 4 v)

unfoldable pub secondary : ℕ → ℕ → Codec ℕ
secondary e i = checked (λ v. not (eqb v 3)) (Inconsistent e i) (field_as 2 swapped swapped (λ _. Unfit e i 0))

-- primary and secondary, for luma and for chroma
abbrev pub Strength : Type 0
Strength = ℕ × ℕ

abbrev pub Strengths : Type 0
Strengths = Strength × Strength

abbrev pub none : Strengths
none = ((0, 0), (0, 0))

unfoldable pub strength : ℕ → ℕ → ℕ → Codec Strength
strength primary second i = f 4 primary i ▷ λ _. secondary second i

unfoldable pub strengths : ℕ → ℕ → Codec Strengths
strengths planes i =
    strength cdef_y_pri_strength cdef_y_sec_strength i ▷ λ _.
    choose (eqb planes 1) (absent (0, 0)) (strength cdef_uv_pri_strength cdef_uv_sec_strength i)

-- of the eight places, the first 2 ^ cdef_bits are coded
unfoldable pub each_strength : ℕ → ℕ → Codec (List Strengths)
each_strength planes count = array none (strengths planes) 8 0 count

unfoldable pub on_table : ℕ → Codec (ℕ × (ℕ × List Strengths))
on_table planes =
    damping ▷ λ _.
    f 2 cdef_bits 0 ▷ λ bits.
    each_strength planes (2 ^ bits)

-- switched off, place 0 is looked at, and no other
unfoldable pub no_strength : ℕ → ℕ → Codec Strength
no_strength primary second = inferred primary 0 0 ▷ λ _. inferred second 0 0

unfoldable pub no_place : Codec Strengths
no_place =
    no_strength cdef_y_pri_strength cdef_y_sec_strength ▷ λ _.
    no_strength cdef_uv_pri_strength cdef_uv_sec_strength

unfoldable pub no_strengths : Codec (List Strengths)
no_strengths = array none (λ _. no_place) 8 0 1

unfoldable pub off_table : Codec (ℕ × (List Strengths × ℕ))
off_table =
    inferred cdef_bits 0 0 ▷ λ _.
    no_strengths ▷ λ _.
    inferred cdef_damping 0 3

-- the record for its tables
abbrev pub strengths_out : CdefParams → List Strengths
strengths_out p =
    zip (0, 0) (0, 0)
    (zip 0 0 p.cdef_y_pri_strength p.cdef_y_sec_strength)
    (zip 0 0 p.cdef_uv_pri_strength p.cdef_uv_sec_strength)

abbrev pub cdef_in : ℕ → ℕ → List Strengths → CdefParams
cdef_in damping bits ss = record {
  cdef_bits = bits;
  cdef_damping = damping;
  cdef_y_pri_strength = firsts (firsts ss);
  cdef_y_sec_strength = seconds (firsts ss);
  cdef_uv_pri_strength = firsts (seconds ss);
  cdef_uv_sec_strength = seconds (seconds ss);
}

unfoldable pub cdef_on : ℕ → Codec CdefParams
cdef_on planes = via (λ p. (p.cdef_damping, (p.cdef_bits, strengths_out p))) (λ (damping, (bits, ss)). cdef_in damping bits ss) (on_table planes)

unfoldable pub cdef_off : Codec CdefParams
cdef_off = via (λ p. (p.cdef_bits, (strengths_out p, p.cdef_damping))) (λ (bits, (ss, damping)). cdef_in damping bits ss) off_table

unfoldable pub cdef_params : CdefContext → Codec CdefParams
cdef_params context = choose (context.coded_lossless || context.allow_intrabc || not context.enable_cdef) cdef_off (cdef_on context.planes)
