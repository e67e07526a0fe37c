use Rattle.bits.specs.Codec.{◌▷◌, choose}
use Rattle.segmentation.specs.Segmentation.{features_if, no_features}
use Rattle.writer.proofs.Walking.{walk}
use Rattle.segmentation.proofs.write.features_if.Goals as goal

pub returns-then-p : goal.returns-then-p
unfolding features_if no_features ◌▷◌ choose
returns-then-p c = search walk depth 14

pub returns-in_err-no_flags : goal.returns-in_err-no_flags
unfolding features_if no_features ◌▷◌ choose
returns-in_err-no_flags c = search walk depth 14

pub returns : goal.returns
unfolding features_if no_features ◌▷◌ choose
returns c = search walk depth 14
