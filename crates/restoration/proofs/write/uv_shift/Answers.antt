use Rattle.bits.specs.Codec.{choose, f, inferred}
use Rattle.restoration.specs.Restoration.{uv_shift}
use Rattle.writer.proofs.Walking.{walk}
use Rattle.restoration.proofs.write.uv_shift.Goals as goal

pub returns-then-coded : goal.returns-then-coded
unfolding uv_shift choose f inferred
returns-then-coded c = search walk depth 14

pub returns : goal.returns
unfolding uv_shift choose f inferred
returns c = search walk depth 14
