use Rattle.obu.specs.Header.{header_end}
use Rattle.reader.proofs.Reading.{steps}
use Rattle.obu.proofs.read.header_end.Goals as goal

pub returns : goal.returns
unfolding header_end
returns c = search steps depth 14 fits 4000
