use Rattle.sequence.specs.Points.{point_delay}
use Rattle.sequence_reader.proofs.Pointing.{point_steps}
use Rattle.sequence_reader.proofs.Pointing.{point_exits}
use Rattle.sequence_reader.proofs.points.point_delay.Goals as goal

pub returns-then-not-has_delay : goal.returns-then-not-has_delay
unfolding point_delay
returns-then-not-has_delay c = search point_steps depth 14 fits 4000

pub returns-then-present : goal.returns-then-present
unfolding point_delay
returns-then-present c = search point_steps depth 14 fits 4000

pub returns : goal.returns
unfolding point_delay
returns c = search point_steps depth 14 fits 4000

pub returns-in_err-n : goal.returns-in_err-n
unfolding point_delay
returns-in_err-n c = search point_exits depth 14 fits 4000
