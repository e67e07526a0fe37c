use Rattle.bits.specs.Codec.{◌▷◌}
use Rattle.quantization.specs.Quantization.{v_coded}
use Rattle.writer.proofs.Walking.{walk}
use Rattle.parts.proofs.Signs.{signs}
use Rattle.quantization.proofs.write.v_coded.Goals as goal

pub returns-in_err-write_delta_q : goal.returns-in_err-write_delta_q
unfolding v_coded ◌▷◌
returns-in_err-write_delta_q c = search (walk, signs) depth 14

pub returns : goal.returns
unfolding v_coded ◌▷◌
returns c = search (walk, signs) depth 14
