use Rattle.sequence.specs.Sequence.{body}
use Rattle.sequence_reader.proofs.Steps.{fill_exits, fill_steps}
use Rattle.sequence_reader.proofs.body.body.Goals as goal

pub returns-in_err-general : goal.returns-in_err-general
unfolding body
returns-in_err-general c = search fill_exits depth 14 fits 4000

pub returns-in_err-frame_size : goal.returns-in_err-frame_size
unfolding body
returns-in_err-frame_size c = search fill_exits depth 14 fits 4000

pub returns-in_err-frame_ids : goal.returns-in_err-frame_ids
unfolding body
returns-in_err-frame_ids c = search fill_exits depth 14 fits 4000

pub returns : goal.returns
unfolding body
returns c = search fill_steps depth 14 fits 4000
