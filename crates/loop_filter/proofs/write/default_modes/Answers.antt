use Rattle.bits.specs.Codec.{◌▷◌}
use Rattle.loop_filter.specs.LoopFilter.{default_modes}
use Rattle.writer.proofs.Walking.{walk}
use Rattle.parts.proofs.Signs.{signs}
use Rattle.loop_filter.proofs.write.default_modes.Goals as goal

pub returns-in_err-inferred_delta : goal.returns-in_err-inferred_delta
unfolding default_modes ◌▷◌
returns-in_err-inferred_delta c = search (walk, signs) depth 14

pub returns : goal.returns
unfolding default_modes ◌▷◌
returns c = search (walk, signs) depth 14
