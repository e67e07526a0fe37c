use Rattle.bits.specs.Codec.{◌▷◌, f}
use Rattle.restoration.specs.Restoration.{kinds}
use Rattle.writer.proofs.Walking.{walk}
use Rattle.restoration.proofs.packed.kinds_apart.Goals as goal

pub returns-in_err-f : goal.returns-in_err-f
unfolding kinds ◌▷◌ f
returns-in_err-f c = search walk depth 14

pub returns-in_err-f-2 : goal.returns-in_err-f-2
unfolding kinds ◌▷◌ f
returns-in_err-f-2 c = search walk depth 14

pub returns : goal.returns
unfolding kinds ◌▷◌ f
returns c = search walk depth 14
