use Rattle.sequence.specs.Timing.{timing_info}
use Rattle.sequence_reader.proofs.Steps.{fill_steps}
use Rattle.sequence_reader.proofs.general.timing_info.Goals as goal

pub returns : goal.returns
unfolding timing_info
returns c = search fill_steps depth 14 fits 4000
