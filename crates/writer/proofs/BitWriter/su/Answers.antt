use Rattle.writer.proofs.SuCodes.{su_by}
use Rattle.writer.proofs.BitWriter.su.Goals as goal

pub returns : goal.returns
returns c = search su_by
