use Rattle.cdef.proofs.Steps.{luma_packed, strengths-packed}
use Rattle.cdef.proofs.packed.strengths.Goals as goal

pub returns-then-y-lt64 : goal.returns-then-y-lt64
returns-then-y-lt64 c = search luma_packed

pub returns-then-uv-lt64 : goal.returns-then-uv-lt64
returns-then-uv-lt64 c = search strengths-packed
