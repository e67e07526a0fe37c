use Rattle.bits.specs.Codec.{◌▷◌}
use Rattle.quantization.specs.Quantization.{v_inferred}
use Rattle.writer.proofs.Walking.{walk}
use Rattle.parts.proofs.Signs.{signs}
use Rattle.quantization.proofs.write.v_inferred.Goals as goal

pub returns-in_err-inferred_delta : goal.returns-in_err-inferred_delta
unfolding v_inferred ◌▷◌
returns-in_err-inferred_delta c = search (walk, signs) depth 14

pub returns : goal.returns
unfolding v_inferred ◌▷◌
returns c = search (walk, signs) depth 14
