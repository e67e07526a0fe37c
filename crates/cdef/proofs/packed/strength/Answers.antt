use Rattle.bits.specs.Codec.{◌▷◌, f}
use Rattle.cdef.specs.Cdef.{strength}
use Rattle.writer.proofs.Walking.{walk}
use Rattle.cdef.proofs.packed.strength.Goals as goal

pub returns-in_err-f : goal.returns-in_err-f
unfolding strength ◌▷◌ f
returns-in_err-f c = search walk depth 14

pub returns : goal.returns
unfolding strength ◌▷◌ f
returns c = search walk depth 14
