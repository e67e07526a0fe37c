use Rattle.bits.specs.Codec.{◌▷◌}
use Rattle.segmentation.specs.Segmentation.{inferred_updates}
use Rattle.writer.proofs.Walking.{walk}
use Rattle.segmentation.proofs.write.inferred_updates.Goals as goal

pub returns-in_err-inferred_flag : goal.returns-in_err-inferred_flag
unfolding inferred_updates ◌▷◌
returns-in_err-inferred_flag c = search walk depth 14

pub returns-in_err-inferred_flag-2 : goal.returns-in_err-inferred_flag-2
unfolding inferred_updates ◌▷◌
returns-in_err-inferred_flag-2 c = search walk depth 14

pub returns : goal.returns
unfolding inferred_updates ◌▷◌
returns c = search walk depth 14
