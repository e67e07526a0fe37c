use Rattle.sequence.specs.Optional.{f_if}
use Rattle.reader.proofs.Reading.{steps}
use Rattle.sequence_reader.proofs.optional.f_if.Goals as goal

pub returns-else-coded : goal.returns-else-coded
unfolding f_if
returns-else-coded c = search steps depth 14
