use Rattle.sequence.specs.Timing.{timing}
use Rattle.sequence_reader.specs.Tails.{model_if, model_points}
use Rattle.sequence.specs.Sequence.{full_general}
use Rattle.sequence_reader.proofs.Beginning.{begin_exits, begin_steps}
use Rattle.sequence_reader.proofs.general.full_general.Goals as goal

pub returns-in_err-timed : goal.returns-in_err-timed
unfolding full_general timing model_if model_points
returns-in_err-timed c = search begin_exits depth 14 fits 4000

pub returns-in_err-timing_info_if : goal.returns-in_err-timing_info_if
unfolding full_general timing model_if model_points
returns-in_err-timing_info_if c = search begin_exits depth 14 fits 4000

pub returns : goal.returns
unfolding full_general timing model_if model_points
returns c = search begin_steps depth 14 fits 4000
