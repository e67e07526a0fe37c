use lib.Dec.{lit≤}
use Rattle.writer.proofs.Loops.{each_start, each_more, each_halt, each-done}
use Rattle.segmentation.specs.Segmentation.{no_flags}
use Rattle.segmentation.proofs.write.no_flags.Goals as goal

pub loop-enabled-init : goal.loop-enabled-init
unfolding no_flags
loop-enabled-init c = each_start (lit≤ tt)

pub returns-in_err-inferred_flag : goal.returns-in_err-inferred_flag
returns-in_err-inferred_flag c = search each_halt

pub loop-enabled-preserved : goal.loop-enabled-preserved
loop-enabled-preserved c = search each_more

pub returns : goal.returns
returns c = search each-done
