-- The most bits of CDEF's parameters.
use mathlib.Core.Path.{refl}
use lib.Dec.{lit≤}
use Rattle.bits.specs.Walk.{bound}
use Rattle.bits.specs.Codec.{◌▷◌, choose, checked, via, array, f, absent, inferred}
use Rattle.cdef.specs.Cdef.{damping, secondary, strength, strengths, each_strength, on_table, no_strength, no_place, no_strengths, off_table, cdef_on, cdef_off, cdef_params}
use Rattle.cdef.specs.declared.record.CdefParams.{CdefParams}
use Rattle.cdef.specs.declared.record.CdefContext.{CdefContext}
use Rattle.bits.proofs.Counting.{unshort, Within}

pub within : (context : CdefContext) (p : CdefParams) → Within 100 ((cdef_params context).enc p)
unfolding bound unshort damping secondary strength strengths each_strength on_table no_strength no_place no_strengths off_table cdef_on cdef_off cdef_params ◌▷◌ choose checked via array f absent inferred
within context p = record { most = lit≤ tt; own = refl }
