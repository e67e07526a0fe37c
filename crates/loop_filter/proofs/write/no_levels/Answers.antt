use Rattle.bits.specs.Codec.{◌▷◌, absent, inferred}
use Rattle.loop_filter.specs.LoopFilter.{no_levels}
use Rattle.writer.proofs.Walking.{walk}
use Rattle.loop_filter.proofs.write.no_levels.Goals as goal

pub returns-in_err-demand : goal.returns-in_err-demand
unfolding no_levels ◌▷◌ absent inferred
returns-in_err-demand c = search walk depth 14

pub returns : goal.returns
unfolding no_levels ◌▷◌ absent inferred
returns c = search walk depth 14
