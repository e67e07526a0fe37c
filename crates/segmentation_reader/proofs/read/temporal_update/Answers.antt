use Rattle.reader.proofs.Reading.{steps}
use Rattle.segmentation.specs.Segmentation.{temporal_update}
use Rattle.segmentation_reader.proofs.read.temporal_update.Goals as goal

pub returns-else-map : goal.returns-else-map
unfolding temporal_update
returns-else-map c = search steps depth 14
