use Rattle.sequence.specs.Timing.{timing_info_if}
use Rattle.sequence_reader.proofs.Beginning.{begin_steps}
use Rattle.sequence_reader.proofs.general.timing_info_if.Goals as goal

pub returns : goal.returns
unfolding timing_info_if
returns c = search begin_steps depth 14 fits 4000
