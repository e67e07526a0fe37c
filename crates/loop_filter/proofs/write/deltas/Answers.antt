use Rattle.bits.specs.Codec.{◌▷◌}
use Rattle.loop_filter.specs.LoopFilter.{deltas}
use Rattle.writer.proofs.Walking.{walk}
use Rattle.loop_filter.proofs.write.deltas.Goals as goal

pub returns-in_err-ref_deltas : goal.returns-in_err-ref_deltas
unfolding deltas ◌▷◌
returns-in_err-ref_deltas c = search walk depth 14

pub returns : goal.returns
unfolding deltas ◌▷◌
returns c = search walk depth 14
