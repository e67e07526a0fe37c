use Rattle.bits.specs.Codec.{select, f, inferred}
use Rattle.sequence.specs.Optional.{f_if}
use Rattle.writer.proofs.Walking.{walk}
use Rattle.sequence_writer.proofs.optional.f_if.Goals as goal

pub returns-then-coded : goal.returns-then-coded
unfolding f_if select f inferred
returns-then-coded c = search walk depth 14

pub returns : goal.returns
unfolding f_if select f inferred
returns c = search walk depth 14
