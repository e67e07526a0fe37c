use Rattle.segmentation_numbers.proofs.Crossing.{segmentation_crosses}
use Rattle.segmentation_numbers.proofs.write_segmentation_numbers.Goals as goal

pub returns : goal.returns
returns c = search segmentation_crosses
