-- The record, field by field.
use mathlib.Core.Path.{◌≡◌}
use mathlib.Core.List.{List}
use mathlib.Core.Bool.{Bool}
use Prim.Native.Nat.{ℕ}
use lib.IntN.{ℤ}
use Rattle.cdef.specs.declared.record.CdefContext.{CdefContext}
use Rattle.cdef.specs.declared.record.CdefParams.{CdefParams}
use Rattle.cdef_numbers.specs.Numbers.{cdef_context, cdef_params}

module _ (xs : List ℤ) where
  pub cdef_context_is : {a b c : Bool} {d : ℕ}
      → a ≡ (cdef_context xs).coded_lossless
      → b ≡ (cdef_context xs).allow_intrabc
      → c ≡ (cdef_context xs).enable_cdef
      → d ≡ (cdef_context xs).planes
      → ◌≡◌ {A = CdefContext} (record { coded_lossless = a; allow_intrabc = b; enable_cdef = c; planes = d }) (cdef_context xs)
  cdef_context_is a b c d = λ i. record { coded_lossless = a i; allow_intrabc = b i; enable_cdef = c i; planes = d i }

  pub cdef_params_is : {a b : ℕ} {c d e f : List ℕ}
      → a ≡ (cdef_params xs).cdef_bits
      → b ≡ (cdef_params xs).cdef_damping
      → c ≡ (cdef_params xs).cdef_y_pri_strength
      → d ≡ (cdef_params xs).cdef_y_sec_strength
      → e ≡ (cdef_params xs).cdef_uv_pri_strength
      → f ≡ (cdef_params xs).cdef_uv_sec_strength
      → ◌≡◌ {A = CdefParams} (record { cdef_bits = a; cdef_damping = b; cdef_y_pri_strength = c; cdef_y_sec_strength = d; cdef_uv_pri_strength = e; cdef_uv_sec_strength = f }) (cdef_params xs)
  cdef_params_is a b c d e f = λ i. record { cdef_bits = a i; cdef_damping = b i; cdef_y_pri_strength = c i; cdef_y_sec_strength = d i; cdef_uv_pri_strength = e i; cdef_uv_sec_strength = f i }
