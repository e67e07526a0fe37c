use Rattle.sequence_reader.specs.Tails.{model_rest}
use Rattle.sequence_reader.proofs.Steps.{fill_steps}
use Rattle.sequence_reader.proofs.Steps.{fill_exits}
use Rattle.sequence_reader.proofs.general.model_rest.Goals as goal

pub returns : goal.returns
unfolding model_rest
returns c = search fill_steps depth 14 fits 4000

pub returns-in_err-n-3 : goal.returns-in_err-n-3
unfolding model_rest
returns-in_err-n-3 c = search fill_exits depth 14 fits 4000
