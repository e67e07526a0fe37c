use Rattle.sequence.specs.Sequence.{color_and_grain}
use Rattle.sequence_reader.proofs.Steps.{fill_exits, fill_steps}
use Rattle.sequence_reader.proofs.body.color_and_grain.Goals as goal

pub returns-in_err-color_config : goal.returns-in_err-color_config
unfolding color_and_grain
returns-in_err-color_config c = search fill_exits depth 14 fits 4000

pub returns-in_err-n : goal.returns-in_err-n
unfolding color_and_grain
returns-in_err-n c = search fill_exits depth 14 fits 4000

pub returns : goal.returns
unfolding color_and_grain
returns c = search fill_steps depth 14 fits 4000
