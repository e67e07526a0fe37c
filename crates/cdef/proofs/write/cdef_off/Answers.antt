use Rattle.bits.specs.Codec.{◌▷◌, via, inferred}
use Rattle.cdef.specs.Cdef.{cdef_off, off_table}
use Rattle.writer.proofs.Walking.{walk}
use Rattle.cdef.proofs.write.cdef_off.Goals as goal

pub returns-in_err-demand : goal.returns-in_err-demand
unfolding cdef_off off_table ◌▷◌ via inferred
returns-in_err-demand c = search walk depth 14

pub returns-in_err-no_strengths : goal.returns-in_err-no_strengths
unfolding cdef_off off_table ◌▷◌ via inferred
returns-in_err-no_strengths c = search walk depth 14

pub returns : goal.returns
unfolding cdef_off off_table ◌▷◌ via inferred
returns c = search walk depth 14
