use mathlib.Core.Path.{refl}
use Rattle.fill.proofs.Filling.{begin, onward_same, halted, final}
use Rattle.loop_filter.specs.LoopFilter.{filter_on}
use Rattle.loop_filter_reader.proofs.read.filter_on.Goals as goal

pub returns-in_err-levels : goal.returns-in_err-levels
unfolding filter_on
returns-in_err-levels c = begin _ (halted _ _ c.in_err-levels.ensures c.from_residual.ensures.1)

pub returns : goal.returns
unfolding filter_on
returns c = begin _ (onward_same _ _ _ _ c.in_ok-levels.ensures (final _ c.rest.ensures refl))
