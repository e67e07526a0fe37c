use Rattle.bits.specs.Codec.{◌▷◌, flag}
use Rattle.segmentation.specs.Segmentation.{coded_updates}
use Rattle.writer.proofs.Walking.{walk}
use Rattle.segmentation.proofs.write.coded_updates.Goals as goal

pub returns-in_err-flag : goal.returns-in_err-flag
unfolding coded_updates ◌▷◌ flag
returns-in_err-flag c = search walk depth 14

pub returns-in_err-temporal_update : goal.returns-in_err-temporal_update
unfolding coded_updates ◌▷◌ flag
returns-in_err-temporal_update c = search walk depth 14

pub returns : goal.returns
unfolding coded_updates ◌▷◌ flag
returns c = search walk depth 14
