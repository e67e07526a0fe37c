use Rattle.segmentation_reader.proofs.Features.{Left}
use Rattle.segmentation_reader.proofs.read.features.Given as goal

abbrev pub invariant-loop-i : goal.invariant-loop-i
invariant-loop-i l = Left l.initial.r l.initial.n l.r l.n l.i
