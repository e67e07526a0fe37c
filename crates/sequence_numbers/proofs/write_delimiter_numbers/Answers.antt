use Rattle.sequence_numbers.proofs.Crossing.{delimiter_crosses}
use Rattle.sequence_numbers.proofs.write_delimiter_numbers.Goals as goal

pub returns : goal.returns
returns c = search delimiter_crosses
