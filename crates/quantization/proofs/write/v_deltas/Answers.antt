use Rattle.bits.specs.Codec.{choose}
use Rattle.quantization.specs.Quantization.{v_deltas}
use Rattle.writer.proofs.Walking.{walk}
use Rattle.quantization.proofs.write.v_deltas.Goals as goal

pub returns-then-diff : goal.returns-then-diff
unfolding v_deltas choose
returns-then-diff c = search walk depth 14

pub returns : goal.returns
unfolding v_deltas choose
returns c = search walk depth 14
