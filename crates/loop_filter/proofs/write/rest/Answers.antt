use Rattle.bits.specs.Codec.{◌▷◌, choose, f, flag, absent}
use Rattle.loop_filter.specs.LoopFilter.{rest}
use Rattle.writer.proofs.Walking.{walk}
use Rattle.loop_filter.proofs.write.rest.Goals as goal

pub returns-in_err-f : goal.returns-in_err-f
unfolding rest ◌▷◌ choose f flag absent
returns-in_err-f c = search walk depth 14

pub returns-in_err-flag : goal.returns-in_err-flag
unfolding rest ◌▷◌ choose f flag absent
returns-in_err-flag c = search walk depth 14

pub returns-then-p : goal.returns-then-p
unfolding rest ◌▷◌ choose f flag absent
returns-then-p c = search walk depth 14

pub returns : goal.returns
unfolding rest ◌▷◌ choose f flag absent
returns c = search walk depth 14
