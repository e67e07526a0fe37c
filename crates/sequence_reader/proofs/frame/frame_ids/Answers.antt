use Rattle.sequence.specs.Frame.{frame_ids}
use Rattle.sequence_reader.proofs.Steps.{fill_steps}
use Rattle.sequence_reader.proofs.Steps.{fill_exits}
use Rattle.sequence_reader.proofs.frame.frame_ids.Goals as goal

pub returns-then-not-present : goal.returns-then-not-present
unfolding frame_ids
returns-then-not-present c = search fill_steps depth 14 fits 4000

pub returns : goal.returns
unfolding frame_ids
returns c = search fill_steps depth 14 fits 4000

pub returns-in_err-n : goal.returns-in_err-n
unfolding frame_ids
returns-in_err-n c = search fill_exits depth 14 fits 4000

pub returns-in_err-n-2 : goal.returns-in_err-n-2
unfolding frame_ids
returns-in_err-n-2 c = search fill_exits depth 14 fits 4000
