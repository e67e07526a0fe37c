use mathlib.Core.Path.{sym}
use Rattle.bits.specs.Codec.{choose, via}
use Rattle.loop_filter.specs.LoopFilter.{loop_filter_params, loop_filter_table}
use Rattle.writer.proofs.Walking.{yes, no}
use Rattle.loop_filter.proofs.write.loop_filter_params.Goals as goal

pub returns-then-is_off : goal.returns-then-is_off
unfolding loop_filter_params loop_filter_table choose via
returns-then-is_off c = yes (sym c.if-is_off.ensures) c.filter_off.ensures

pub returns : goal.returns
unfolding loop_filter_params loop_filter_table choose via
returns c = no (sym c.if-is_off.ensures) c.filter_on.ensures
