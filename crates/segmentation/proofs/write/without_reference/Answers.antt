use Rattle.bits.specs.Codec.{◌▷◌, inferred_flag}
use Rattle.segmentation.specs.Segmentation.{without_reference, inferred_updates}
use Rattle.writer.proofs.Walking.{walk}
use Rattle.segmentation.proofs.write.without_reference.Goals as goal

pub returns-in_err-inferred_updates : goal.returns-in_err-inferred_updates
unfolding without_reference inferred_updates ◌▷◌ inferred_flag
returns-in_err-inferred_updates c = search walk depth 14

pub returns : goal.returns
unfolding without_reference inferred_updates ◌▷◌ inferred_flag
returns c = search walk depth 14
