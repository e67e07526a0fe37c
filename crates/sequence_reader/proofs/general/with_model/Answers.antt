use native.Mathlib.Omega.{arith}
use Rattle.reader.proofs.Reading.{f_fits}
use Rattle.sequence.specs.Timing.{decoder_model_info}
use Rattle.sequence_reader.specs.Tails.{model_rest, with_model}
use Rattle.sequence_reader.proofs.Beginning.{begin_exits, begin_steps}
use Rattle.sequence_reader.proofs.general.with_model.Goals as goal

pub returns-in_err-model_rest : goal.returns-in_err-model_rest
unfolding with_model model_rest decoder_model_info
returns-in_err-model_rest c = search begin_exits depth 14 fits 4000

pub overflow_add-length_minus_1 : goal.overflow_add-length_minus_1
overflow_add-length_minus_1 c = omega (arith, f_fits 5 0 0 c.in_ok-length_minus_1.ensures.said)

pub returns : goal.returns
unfolding with_model model_rest decoder_model_info
returns c = search begin_steps depth 14 fits 4000
