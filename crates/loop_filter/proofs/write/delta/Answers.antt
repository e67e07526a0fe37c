use Rattle.loop_filter.proofs.Steps.{delta-set}
use Rattle.loop_filter.proofs.write.delta.Goals as goal

pub returns : goal.returns
returns c = search delta-set
