use Rattle.writer.proofs.Coding.{goes_all, goes_on, goes_halt, goes_end}
use Rattle.writer.proofs.BitWriter.leb128.Goals as goal

pub loop-value-init : goal.loop-value-init
loop-value-init c = search goes_all

pub returns-in_err-f : goal.returns-in_err-f
returns-in_err-f c = search goes_halt

pub loop-value-preserved : goal.loop-value-preserved
loop-value-preserved c = search goes_on

pub returns : goal.returns
returns c = search goes_end
