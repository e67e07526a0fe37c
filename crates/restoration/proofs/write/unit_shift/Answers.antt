use Rattle.bits.specs.Codec.{choose}
use Rattle.restoration.specs.Restoration.{unit_shift}
use Rattle.writer.proofs.Walking.{walk}
use Rattle.restoration.proofs.write.unit_shift.Goals as goal

pub returns-then-large : goal.returns-then-large
unfolding unit_shift choose
returns-then-large c = search walk depth 14

pub returns : goal.returns
unfolding unit_shift choose
returns c = search walk depth 14
