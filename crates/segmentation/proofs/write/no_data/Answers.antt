use lib.Dec.{lit≤}
use Rattle.writer.proofs.Loops.{each_start, each_more, each_halt, each-done}
use Rattle.segmentation.specs.Segmentation.{no_data}
use Rattle.parts.proofs.Signs.{given_16}
use Rattle.segmentation.proofs.write.no_data.Goals as goal

pub loop-value-init : goal.loop-value-init
unfolding no_data
loop-value-init c = each_start (lit≤ tt)

pub returns-in_err-no_value : goal.returns-in_err-no_value
returns-in_err-no_value c = search (each_halt, given_16)

pub loop-value-preserved : goal.loop-value-preserved
loop-value-preserved c = search (each_more, given_16)

pub returns : goal.returns
returns c = search each-done
