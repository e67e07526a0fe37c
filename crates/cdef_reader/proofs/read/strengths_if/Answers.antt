use Rattle.fill.proofs.Filling.{begin, no}
use Rattle.cdef_reader.proofs.Strengths.{no-place-laid}
use Rattle.cdef_reader.proofs.read.strengths_if.Goals as goal

pub returns : goal.returns
returns c = begin _ (no _ _ _ c.if-coded.false (no-place-laid c.args.i))
