use Rattle.quantization.proofs.Deltas.{as_given}
use Rattle.quantization.proofs.write.write_quantization_params.Goals as goal

pub returns : goal.returns
returns c = search as_given
