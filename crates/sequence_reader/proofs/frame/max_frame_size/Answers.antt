use Rattle.sequence.specs.Frame.{max_frame_size}
use Rattle.reader.proofs.Reading.{by_f_wide}
use Rattle.fill.proofs.Filling.{filled_steps}
use Rattle.sequence_reader.proofs.frame.max_frame_size.Goals as goal

pub returns : goal.returns
unfolding max_frame_size
returns c = search (filled_steps, by_f_wide) depth 14 fits 4000
