use lib.Dec.{lit≤}
use Rattle.bits.specs.Codec.{via}
use Rattle.writer.proofs.Loops.{each_start, each_more, each_halt, each-done}
use Rattle.segmentation.specs.Segmentation.{features}
use Rattle.segmentation.proofs.Steps.{feature-at}
use Rattle.segmentation.proofs.write.features.Goals as goal

pub loop-i-init : goal.loop-i-init
unfolding features via
loop-i-init c = each_start (lit≤ tt)

pub returns-in_err-feature : goal.returns-in_err-feature
returns-in_err-feature c = search (each_halt, feature-at)

pub loop-i-preserved : goal.loop-i-preserved
loop-i-preserved c = search (each_more, feature-at)

pub returns : goal.returns
returns c = search each-done
