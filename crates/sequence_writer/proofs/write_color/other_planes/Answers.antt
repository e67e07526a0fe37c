use Rattle.bits.specs.Codec.{◌▷◌, via, flag}
use Rattle.sequence.specs.Color.{other_planes}
use Rattle.writer.proofs.Walking.{walk}
use Rattle.sequence_writer.proofs.write_color.other_planes.Goals as goal

pub returns-in_err-flag : goal.returns-in_err-flag
unfolding other_planes ◌▷◌ via flag
returns-in_err-flag c = search walk depth 14

pub returns-in_err-sampling : goal.returns-in_err-sampling
unfolding other_planes ◌▷◌ via flag
returns-in_err-sampling c = search walk depth 14

pub returns : goal.returns
unfolding other_planes ◌▷◌ via flag
returns c = search walk depth 14
