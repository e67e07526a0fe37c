-- The record's numbers, in the order of the case lines: the context first.
use Rattle.std.specs.Prelude.{List, ℕ, ◌+◌, ℤ}
use Rattle.bits.specs.Walk.{Walk}
use Rattle.cdef.specs.Cdef as cdef
use Rattle.cdef.specs.declared.record.CdefParams.{CdefParams}
use Rattle.cdef.specs.declared.record.CdefContext.{CdefContext}
use Rattle.numbers.specs.Numbers.{set_at, natural_at, each}

abbrev pub cdef_context : List ℤ → CdefContext
cdef_context xs = record { coded_lossless = set_at xs 0; allow_intrabc = set_at xs 1; enable_cdef = set_at xs 2; planes = natural_at xs 3 }

-- eight strengths from a place on
abbrev pub strengths : List ℤ → ℕ → List ℕ
strengths xs at = each 8 (λ i. natural_at xs (at + i))

abbrev pub cdef_params : List ℤ → CdefParams
cdef_params xs = record {
  cdef_bits = natural_at xs 4;
  cdef_damping = natural_at xs 5;
  cdef_y_pri_strength = strengths xs 6;
  cdef_y_sec_strength = strengths xs 14;
  cdef_uv_pri_strength = strengths xs 22;
  cdef_uv_sec_strength = strengths xs 30;
}

-- what the numbers have written
abbrev pub cdef_walk : List ℤ → Walk
cdef_walk xs = (cdef.cdef_params (cdef_context xs)).enc (cdef_params xs)
