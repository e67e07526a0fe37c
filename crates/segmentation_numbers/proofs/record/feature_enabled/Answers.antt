use mathlib.Core.Bool.{false}
use Rattle.numbers.proofs.Filling.{filled_none, filled_on, filled-end}
use Rattle.segmentation_numbers.proofs.record.feature_enabled.Goals as goal

pub loop-i-init : goal.loop-i-init
loop-i-init c = filled_none false

pub loop-i-preserved : goal.loop-i-preserved
loop-i-preserved c = search filled_on

pub returns : goal.returns
returns c = search filled-end
