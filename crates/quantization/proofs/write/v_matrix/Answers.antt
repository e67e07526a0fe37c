use Rattle.bits.specs.Codec.{choose, f, inferred}
use Rattle.quantization.specs.Quantization.{v_matrix}
use Rattle.writer.proofs.Walking.{walk}
use Rattle.quantization.proofs.write.v_matrix.Goals as goal

pub returns-then-separate : goal.returns-then-separate
unfolding v_matrix choose f inferred
returns-then-separate c = search walk depth 14

pub returns : goal.returns
unfolding v_matrix choose f inferred
returns c = search walk depth 14
