use Rattle.bits.specs.Codec.{◌▷◌, choose, via, flag, absent}
use Rattle.segmentation.specs.Segmentation.{segmentation_params, segmentation_table, enabled_params}
use Rattle.writer.proofs.Walking.{walk}
use Rattle.segmentation.proofs.write.segmentation_params.Goals as goal

pub returns-in_err-flag : goal.returns-in_err-flag
unfolding segmentation_params segmentation_table enabled_params ◌▷◌ choose via flag absent
returns-in_err-flag c = search walk depth 14

pub returns-then-context-eq7 : goal.returns-then-context-eq7
unfolding segmentation_params segmentation_table enabled_params ◌▷◌ choose via flag absent
returns-then-context-eq7 c = search walk depth 14

pub returns-then-p : goal.returns-then-p
unfolding segmentation_params segmentation_table enabled_params ◌▷◌ choose via flag absent
returns-then-p c = search walk depth 14

pub returns : goal.returns
unfolding segmentation_params segmentation_table enabled_params ◌▷◌ choose via flag absent
returns c = search walk depth 14
