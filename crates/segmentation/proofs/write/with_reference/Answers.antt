use Rattle.bits.specs.Codec.{◌▷◌, flag}
use Rattle.segmentation.specs.Segmentation.{with_reference, coded_updates}
use Rattle.writer.proofs.Walking.{walk}
use Rattle.segmentation.proofs.write.with_reference.Goals as goal

pub returns-in_err-coded_updates : goal.returns-in_err-coded_updates
unfolding with_reference coded_updates ◌▷◌ flag
returns-in_err-coded_updates c = search walk depth 14

pub returns : goal.returns
unfolding with_reference coded_updates ◌▷◌ flag
returns c = search walk depth 14
