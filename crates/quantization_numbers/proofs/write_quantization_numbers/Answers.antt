use Rattle.quantization_numbers.proofs.Crossing.{quantization_crosses}
use Rattle.quantization_numbers.proofs.write_quantization_numbers.Goals as goal

pub returns : goal.returns
returns c = search quantization_crosses
