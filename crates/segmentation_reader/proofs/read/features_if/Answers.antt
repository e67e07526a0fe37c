use Rattle.fill.proofs.Filling.{begin, no}
use Rattle.segmentation.specs.Segmentation.{features_if}
use Rattle.segmentation_reader.proofs.Features.{no_features_laid}
use Rattle.segmentation_reader.proofs.read.features_if.Goals as goal

pub returns : goal.returns
unfolding features_if
returns c = begin _ (no _ _ _ c.if-update.false (no_features_laid c.no_features.ensures))
