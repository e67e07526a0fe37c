use Rattle.writer.proofs.Walking.{mark-done}
use Rattle.writer.proofs.BitWriter.flag.Goals as goal

pub returns : goal.returns
returns c = search mark-done
