use Rattle.bits.specs.Codec.{◌▷◌, via, f}
use Rattle.quantization.specs.Quantization.{quantization_params, quantization_table}
use Rattle.writer.proofs.Walking.{walk}
use Rattle.parts.proofs.Signs.{signs}
use Rattle.quantization.proofs.write.quantization_params.Goals as goal

pub returns-in_err-f : goal.returns-in_err-f
unfolding quantization_params quantization_table ◌▷◌ via f
returns-in_err-f c = search (walk, signs) depth 14

pub returns-in_err-write_delta_q : goal.returns-in_err-write_delta_q
unfolding quantization_params quantization_table ◌▷◌ via f
returns-in_err-write_delta_q c = search (walk, signs) depth 14

pub returns-in_err-chroma : goal.returns-in_err-chroma
unfolding quantization_params quantization_table ◌▷◌ via f
returns-in_err-chroma c = search (walk, signs) depth 14

pub returns : goal.returns
unfolding quantization_params quantization_table ◌▷◌ via f
returns c = search (walk, signs) depth 14
