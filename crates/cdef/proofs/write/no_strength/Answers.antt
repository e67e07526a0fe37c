use Rattle.bits.specs.Codec.{◌▷◌, inferred}
use Rattle.cdef.specs.Cdef.{no_strength}
use Rattle.writer.proofs.Walking.{walk}
use Rattle.cdef.proofs.write.no_strength.Goals as goal

pub returns-in_err-demand : goal.returns-in_err-demand
unfolding no_strength ◌▷◌ inferred
returns-in_err-demand c = search walk depth 14

pub returns : goal.returns
unfolding no_strength ◌▷◌ inferred
returns c = search walk depth 14
