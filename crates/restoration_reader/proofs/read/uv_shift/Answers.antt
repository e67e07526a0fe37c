use Rattle.restoration.specs.Restoration.{uv_shift}
use Rattle.reader.proofs.Reading.{fixed_reads, by_inferred}
use Rattle.parts_reader.proofs.Storing.{said_no}
use Rattle.restoration_reader.proofs.read.uv_shift.Goals as goal

pub returns : goal.returns
unfolding uv_shift
returns c = said_no _ _ _ c.if-coded.false (fixed_reads _ (by_inferred _ _ _))
