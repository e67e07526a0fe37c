use Rattle.writer.proofs.Coding.{zeros-done}
use Rattle.writer.proofs.BitWriter.zeros.Goals as goal

pub returns : goal.returns
returns c = search zeros-done
