use Rattle.fill.specs.Fills.{at, ◌▸◌}
use Rattle.segmentation_reader.specs.Layout.{enabled_place}
use Rattle.segmentation_reader.proofs.read.disabled.Goals as goal

pub returns : goal.returns
unfolding enabled_place at ◌▸◌
returns c = c.no_features.ensures
