use mathlib.Core.Path.{refl}
use Rattle.fill.proofs.Filling.{begin, yes, no, nothing}
use Rattle.fill.proofs.Signs.{put_bit}
use Rattle.segmentation.specs.Segmentation.{feature}
use Rattle.segmentation_reader.specs.Layout.{feature_place}
use Rattle.segmentation_reader.proofs.Features.{put_value}
use Rattle.segmentation_reader.proofs.feature.feature.Goals as goal

pub returns-then-enabled : goal.returns-then-enabled
unfolding feature feature_place
returns-then-enabled c = begin _ (put_bit _ _ _ _ _ c.in_ok-enabled.ensures.said (yes _ _ _ c.if-enabled.true (put_value _ _ _ c.in_ok-n.ensures refl)))

pub returns : goal.returns
unfolding feature feature_place
returns c = begin _ (put_bit _ _ _ _ _ c.in_ok-enabled.ensures.said (no _ _ _ c.if-enabled.false (nothing _ _ _ _ refl)))
