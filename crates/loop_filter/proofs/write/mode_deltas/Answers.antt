use Rattle.bits.specs.Codec.{◌▷◌}
use Rattle.loop_filter.specs.LoopFilter.{mode_deltas}
use Rattle.writer.proofs.Walking.{walk}
use Rattle.parts.proofs.Signs.{signs}
use Rattle.loop_filter.proofs.write.mode_deltas.Goals as goal

pub returns-in_err-delta : goal.returns-in_err-delta
unfolding mode_deltas ◌▷◌
returns-in_err-delta c = search (walk, signs) depth 14

pub returns : goal.returns
unfolding mode_deltas ◌▷◌
returns c = search (walk, signs) depth 14
