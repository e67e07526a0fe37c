use mathlib.Core.Path.{refl}
use Rattle.fill.proofs.Filling.{begin, group_on, known_flag_on, yes, final}
use Rattle.segmentation.specs.Segmentation.{without_reference, inferred_updates, features_if}
use Rattle.segmentation_reader.specs.Layout.{enabled_place}
use Rattle.segmentation_reader.proofs.read.without_reference.Goals as goal

pub returns : goal.returns
unfolding without_reference inferred_updates features_if enabled_place
returns c = begin _ (group_on _ _ _ _ _ _ (known_flag_on _ _ _ _ _ _ _ _ (group_on _ _ _ _ _ _ (known_flag_on _ _ _ _ _ _ _ _ (known_flag_on _ _ _ _ _ _ _ _ (yes _ _ _ refl (final _ c.features.ensures refl)))))))
