use Rattle.bits.specs.Codec.{◌▷◌, f}
use Rattle.loop_filter.specs.LoopFilter.{levels}
use Rattle.parts.proofs.Packing.{pair_then, pair_halt}
use Rattle.loop_filter.proofs.Steps.{levels_by}
use Rattle.loop_filter.proofs.write.levels.Goals as goal

pub returns-in_err-pair : goal.returns-in_err-pair
unfolding levels ◌▷◌ f
returns-in_err-pair c = search pair_halt

pub returns : goal.returns
unfolding levels ◌▷◌ f
returns c = search (pair_then, levels_by)
