use Rattle.bits.specs.Codec.{choose, flag, absent}
use Rattle.segmentation.specs.Segmentation.{temporal_update}
use Rattle.writer.proofs.Walking.{walk}
use Rattle.segmentation.proofs.write.temporal_update.Goals as goal

pub returns-then-p : goal.returns-then-p
unfolding temporal_update choose flag absent
returns-then-p c = search walk depth 14

pub returns : goal.returns
unfolding temporal_update choose flag absent
returns c = search walk depth 14
