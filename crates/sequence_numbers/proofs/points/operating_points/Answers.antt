use Rattle.numbers.proofs.Filling.{filled_none, part_on, part_end}
use Rattle.sequence_numbers.proofs.points.operating_points.Goals as goal

pub loop-i-init : goal.loop-i-init
loop-i-init c = filled_none _

pub loop-i-preserved : goal.loop-i-preserved
loop-i-preserved c = search part_on

pub returns : goal.returns
returns c = search part_end
