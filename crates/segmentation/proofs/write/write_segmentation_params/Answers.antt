use native.Mathlib.Omega.{arith}
use lib.Dec.{lit≤}
use Rattle.segmentation.specs.Segmentation.{segmentation_params}
use Rattle.segmentation.specs.declared.record.SegmentationParams.{SegmentationParams}
use Rattle.segmentation.specs.declared.record.SegmentationContext.{SegmentationContext}
use Rattle.writer.proofs.Walking.{lent}
use Rattle.parts.proofs.Writing.{Near, once}
use Rattle.segmentation.proofs.Counts.{within}
use Rattle.segmentation.proofs.write.write_segmentation_params.Goals as goal

near : (context : SegmentationContext) (p : SegmentationParams) → Near 64 ((segmentation_params context).enc p)
near context p = record { most = omega (arith, (within context p).most); size = lit≤ tt }

pub returns : goal.returns
returns c = search (once, near, lent {n = 64} c.segmentation_params-walk.ensures)
