use Rattle.bits.specs.Codec.{choose}
use Rattle.cdef.specs.Cdef.{cdef_params}
use Rattle.writer.proofs.Walking.{walk_by}
use Rattle.cdef.proofs.write.cdef_params.Goals as goal

pub returns-then-is_off : goal.returns-then-is_off
unfolding cdef_params choose
returns-then-is_off c = search walk_by depth 14

pub returns : goal.returns
unfolding cdef_params choose
returns c = search walk_by depth 14
