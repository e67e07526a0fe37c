use Rattle.bits.specs.Codec.{◌▷◌, f}
use Rattle.restoration.specs.Restoration.{three_planes, kinds}
use Rattle.writer.proofs.Walking.{walk}
use Rattle.restoration.proofs.Steps.{three_by}
use Rattle.restoration.proofs.write.three_planes.Goals as goal

pub returns-in_err-kinds : goal.returns-in_err-kinds
unfolding three_planes kinds ◌▷◌ f
returns-in_err-kinds c = search walk depth 14

pub returns : goal.returns
unfolding three_planes kinds ◌▷◌ f
returns c = search (walk, three_by) depth 14
