use Rattle.writer.proofs.Walking.{walk}
use Rattle.cdef.proofs.Steps.{strengths_by}
use Rattle.cdef.proofs.packed.strengths_apart.Goals as goal

pub returns-in_err-strength : goal.returns-in_err-strength
returns-in_err-strength c = search (walk, strengths_by) depth 14

pub returns-then-planes-eq1 : goal.returns-then-planes-eq1
returns-then-planes-eq1 c = search (walk, strengths_by) depth 14

pub returns : goal.returns
returns c = search (walk, strengths_by) depth 14
