use Rattle.bits.specs.Codec.{◌▷◌, choose, flag, absent}
use Rattle.loop_filter.specs.LoopFilter.{delta_update}
use Rattle.writer.proofs.Walking.{walk}
use Rattle.loop_filter.proofs.write.delta_update.Goals as goal

pub returns-in_err-flag : goal.returns-in_err-flag
unfolding delta_update ◌▷◌ choose flag absent
returns-in_err-flag c = search walk depth 14

pub returns-then-p : goal.returns-then-p
unfolding delta_update ◌▷◌ choose flag absent
returns-then-p c = search walk depth 14

pub returns : goal.returns
unfolding delta_update ◌▷◌ choose flag absent
returns c = search walk depth 14
