use Rattle.obu.specs.Header.{obu_extension_header}
use Rattle.reader.proofs.Reading.{steps}
use Rattle.obu.proofs.read.obu_extension_header.Goals as goal

pub returns : goal.returns
unfolding obu_extension_header
returns c = search steps depth 14 fits 4000
