use Rattle.segmentation_reader.proofs.Features.{Clearing}
use Rattle.segmentation_reader.proofs.read.no_features.Given as goal

abbrev pub invariant-loop-i : goal.invariant-loop-i
invariant-loop-i l = Clearing l.initial.n l.n l.i
