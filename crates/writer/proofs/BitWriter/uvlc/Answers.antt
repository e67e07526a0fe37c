use Rattle.writer.proofs.Coding.{uvlc_unfit, length_some, uvlc-done}
use Rattle.writer.proofs.BitWriter.uvlc.Goals as goal

pub returns-then-value-eq4294967295 : goal.returns-then-value-eq4294967295
returns-then-value-eq4294967295 c = search uvlc_unfit

pub overflow_sub-length : goal.overflow_sub-length
overflow_sub-length c = search length_some

pub returns : goal.returns
returns c = search uvlc-done
