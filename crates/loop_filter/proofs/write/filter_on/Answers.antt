use Rattle.bits.specs.Codec.{◌▷◌}
use Rattle.loop_filter.specs.LoopFilter.{filter_on}
use Rattle.writer.proofs.Walking.{walk}
use Rattle.loop_filter.proofs.write.filter_on.Goals as goal

pub returns-in_err-levels : goal.returns-in_err-levels
unfolding filter_on ◌▷◌
returns-in_err-levels c = search walk depth 14

pub returns : goal.returns
unfolding filter_on ◌▷◌
returns c = search walk depth 14
