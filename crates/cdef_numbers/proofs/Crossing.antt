-- The part is written as its numbers say.
use mathlib.Core.Path.{◌≡◌}
use mathlib.Core.List.{List}
use Prim.Native.Nat.{ℕ}
use lib.IntN.{ℤ}
use Rattle.bits.specs.Walk.{run}
use Rattle.bits.specs.Written.{Answer}
use Rattle.parts.specs.Written.{Writes}
use Rattle.cdef.specs.Cdef as cdef
use Rattle.cdef.specs.declared.record.CdefParams.{CdefParams}
use Rattle.cdef.specs.declared.record.CdefContext.{CdefContext}
use Rattle.numbers.proofs.Writing.{written_as}
use Rattle.cdef_numbers.specs.Numbers.{cdef_context, cdef_params, cdef_walk}

pub cdef_crosses : {place : ℕ} {out end : List ℕ} {r : Answer} (xs : List ℤ) {p : CdefParams} {k : CdefContext} → p ≡ cdef_params xs → k ≡ cdef_context xs
    → Writes ((cdef.cdef_params k).enc p) place out r end → Writes (cdef_walk xs) place out r end
cdef_crosses xs e f w = written_as (λ i. run ((cdef.cdef_params (f i)).enc (e i))) w
