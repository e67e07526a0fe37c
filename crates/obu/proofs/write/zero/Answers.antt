use Rattle.writer.proofs.Walking.{zero-mark}
use Rattle.obu.proofs.write.zero.Goals as goal

pub returns : goal.returns
returns c = search zero-mark
