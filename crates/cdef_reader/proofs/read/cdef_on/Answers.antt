use Rattle.cdef.specs.Cdef.{cdef_on, on_table}
use Rattle.cdef_reader.specs.Layout.{cdef_place}
use Rattle.reader.proofs.Reading.{f_of}
use Rattle.fill.proofs.Filling.{begin, struct, put_halt}
use Rattle.cdef_reader.proofs.Strengths.{put_damping, tuple_back}
use Rattle.cdef_reader.proofs.read.cdef_on.Goals as goal

pub returns-in_err-bits : goal.returns-in_err-bits
unfolding cdef_on on_table cdef_place
returns-in_err-bits c =
    begin _ (struct _ _ _ _ tuple_back (put_damping _ _ _ c.in_ok-n.ensures (put_halt _ _ (f_of 2 _ 0 c.in_err-bits.ensures.said) c.from_residual-in_err-bits.ensures.1)))
