use Rattle.quantization.proofs.Deltas.{delta-zero, delta-set}
use Rattle.quantization.proofs.write.write_delta_q.Goals as goal

pub returns-then-delta-eq0 : goal.returns-then-delta-eq0
returns-then-delta-eq0 c = search delta-zero

pub returns : goal.returns
returns c = search delta-set
