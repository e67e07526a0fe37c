use Rattle.bits.specs.Codec.{◌▷◌, absent}
use Rattle.loop_filter.specs.LoopFilter.{filter_off, no_rest}
use Rattle.writer.proofs.Walking.{walk}
use Rattle.loop_filter.proofs.write.filter_off.Goals as goal

pub returns-in_err-no_levels : goal.returns-in_err-no_levels
unfolding filter_off no_rest ◌▷◌ absent
returns-in_err-no_levels c = search walk depth 14

pub returns-in_err-default_refs : goal.returns-in_err-default_refs
unfolding filter_off no_rest ◌▷◌ absent
returns-in_err-default_refs c = search walk depth 14

pub returns : goal.returns
unfolding filter_off no_rest ◌▷◌ absent
returns c = search walk depth 14
