use Rattle.writer.proofs.Walking.{walk}
use Rattle.cdef.proofs.Steps.{no-strengths-by}
use Rattle.cdef.proofs.write.no_strengths.Goals as goal

pub returns-in_err-no_strength : goal.returns-in_err-no_strength
returns-in_err-no_strength c = search (walk, no-strengths-by) depth 14

pub returns : goal.returns
returns c = search (walk, no-strengths-by) depth 14
