use mathlib.Core.Path.{refl}
use Rattle.fill.proofs.Filling.{begin, onward_same, halted, final}
use Rattle.loop_filter.specs.LoopFilter.{deltas}
use Rattle.loop_filter_reader.specs.Layout.{deltas_place}
use Rattle.loop_filter_reader.proofs.read.deltas.Goals as goal

pub returns-in_err-ref_deltas : goal.returns-in_err-ref_deltas
unfolding deltas
returns-in_err-ref_deltas c = begin _ (halted _ _ c.in_err-ref_deltas.ensures c.from_residual.ensures.1)

pub returns : goal.returns
unfolding deltas deltas_place
returns c = begin _ (onward_same _ _ _ _ c.in_ok-ref_deltas.ensures (final _ c.mode_deltas.ensures refl))
