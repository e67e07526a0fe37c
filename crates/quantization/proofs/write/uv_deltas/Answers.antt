use Rattle.writer.proofs.Walking.{walk}
use Rattle.quantization.proofs.Deltas.{uv_walk}
use Rattle.parts.proofs.Signs.{signs}
use Rattle.quantization.proofs.write.uv_deltas.Goals as goal

pub returns-in_err-write_delta_q : goal.returns-in_err-write_delta_q
returns-in_err-write_delta_q c = search (walk, signs, uv_walk) depth 14

pub returns-in_err-write_delta_q-2 : goal.returns-in_err-write_delta_q-2
returns-in_err-write_delta_q-2 c = search (walk, signs, uv_walk) depth 14

pub returns : goal.returns
returns c = search (walk, signs, uv_walk) depth 14
