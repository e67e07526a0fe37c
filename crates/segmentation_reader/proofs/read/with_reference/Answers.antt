use mathlib.Core.Path.{refl}
use Rattle.fill.proofs.Filling.{begin, group_on, final}
use Rattle.fill.proofs.Signs.{put_bit}
use Rattle.segmentation.specs.Segmentation.{with_reference, coded_updates}
use Rattle.segmentation_reader.specs.Layout.{enabled_place}
use Rattle.segmentation_reader.proofs.read.with_reference.Goals as goal

pub returns : goal.returns
unfolding with_reference coded_updates enabled_place
returns c = begin _ (group_on _ _ _ _ _ _ (put_bit _ _ _ _ _ c.in_ok-map.ensures.said (group_on _ _ _ _ _ _ (put_bit _ _ _ _ _ c.in_ok-temporal.ensures (final _ c.update_data.ensures refl)))))
