use Rattle.sequence_reader.proofs.PayloadParts.{part_none, part_some}
use Rattle.sequence_reader.proofs.read.payload_part.Goals as goal

pub returns-in_default : goal.returns-in_default
returns-in_default c = part_none _ c.in_default.ensures

pub returns : goal.returns
returns c = part_some _ c.in-Ok.ensures c.behind-place.ensures
