use Rattle.sequence.specs.Optional.{flag_if}
use Rattle.reader.proofs.Reading.{steps}
use Rattle.sequence_reader.proofs.optional.flag_if.Goals as goal

pub returns-else-coded : goal.returns-else-coded
unfolding flag_if
returns-else-coded c = search steps depth 14
