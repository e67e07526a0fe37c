use Rattle.bits.specs.Codec.{◌▷◌, via, f}
use Rattle.cdef.specs.Cdef.{cdef_on, on_table}
use Rattle.writer.proofs.Walking.{halt_here}
use Rattle.parts.proofs.Packing.{pair_then, pair_halt}
use Rattle.cdef.proofs.Steps.{damping_low, damping_high, damping_fits, places_by}
use Rattle.cdef.proofs.write.cdef_on.Goals as goal

pub returns-then-p-lt3 : goal.returns-then-p-lt3
unfolding cdef_on on_table ◌▷◌ via f
returns-then-p-lt3 c = search (damping_low, halt_here)

pub returns-then-p-gt6 : goal.returns-then-p-gt6
unfolding cdef_on on_table ◌▷◌ via f
returns-then-p-gt6 c = search (damping_high, halt_here)

pub returns-in_err-pair : goal.returns-in_err-pair
unfolding cdef_on on_table ◌▷◌ via f
returns-in_err-pair c = search (damping_fits, pair_halt)

pub returns : goal.returns
unfolding cdef_on on_table ◌▷◌ via f
returns c = search (damping_fits, pair_then, places_by) depth 14
