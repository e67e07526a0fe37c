use Rattle.bits.specs.Codec.{◌▷◌, absent, inferred, inferred_flag}
use Rattle.restoration.specs.Restoration.{no_planes, no_kinds}
use Rattle.writer.proofs.Walking.{walk}
use Rattle.restoration.proofs.write.no_planes.Goals as goal

pub returns-in_err-no_kinds : goal.returns-in_err-no_kinds
unfolding no_planes no_kinds ◌▷◌ absent inferred inferred_flag
returns-in_err-no_kinds c = search walk depth 14

pub returns : goal.returns
unfolding no_planes no_kinds ◌▷◌ absent inferred inferred_flag
returns c = search walk depth 14
