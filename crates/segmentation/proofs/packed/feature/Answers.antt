use Rattle.segmentation.proofs.Steps.{enabled, disabled}
use Rattle.segmentation.proofs.packed.feature.Goals as goal

pub returns-then-enabled : goal.returns-then-enabled
returns-then-enabled c = search enabled

pub returns : goal.returns
returns c = search disabled
