use Rattle.parts_reader.proofs.Telling.{no_begin, no_part, all_part, place_fits}
use Rattle.quantization_reader.proofs.read.fill_quantization_params.Goals as goal

pub returns-in_err-r : goal.returns-in_err-r
returns-in_err-r c = no_begin _ c.in_err-r.ensures c.from_residual.ensures.1

pub returns-in_err-quantization_params : goal.returns-in_err-quantization_params
returns-in_err-quantization_params c = no_part _ c.in_ok-r.ensures c.in_err-quantization_params.ensures c.from_residual-in_err-quantization_params.ensures.1

pub overflow_cast-result : goal.overflow_cast-result
overflow_cast-result c = place_fits c.in_ok-r.ensures c.in_ok-quantization_params.ensures

pub returns : goal.returns
returns c = all_part _ c.in_ok-r.ensures c.in_ok-quantization_params.ensures
