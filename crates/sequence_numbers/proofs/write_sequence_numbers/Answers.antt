use Rattle.obu.proofs.Strings.{writes_as}
use Rattle.sequence_numbers.proofs.write_sequence_numbers.Goals as goal

pub returns : goal.returns
returns c = writes_as c.sequence_header.ensures c.write_sequence_header.ensures
