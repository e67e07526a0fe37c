use Rattle.bits.specs.Codec.{◌▷◌, f}
use Rattle.quantization.specs.Quantization.{matrices}
use Rattle.parts.proofs.Packing.{pair_then, pair_halt}
use Rattle.quantization.proofs.write.matrices.Goals as goal

pub returns-in_err-pair : goal.returns-in_err-pair
unfolding matrices ◌▷◌ f
returns-in_err-pair c = search pair_halt

pub returns : goal.returns
unfolding matrices ◌▷◌ f
returns c = search pair_then
