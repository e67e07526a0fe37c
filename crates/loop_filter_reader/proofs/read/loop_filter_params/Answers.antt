use mathlib.Core.Path.{refl, sym}
use Rattle.fill.proofs.Filling.{begin, struct, yes}
use Rattle.loop_filter.specs.LoopFilter.{loop_filter_params, loop_filter_table}
use Rattle.loop_filter_reader.specs.Layout.{loop_filter_place}
use Rattle.loop_filter_reader.proofs.Deltas.{switched_off}
use Rattle.loop_filter_reader.proofs.read.loop_filter_params.Goals as goal

pub returns-then-is_off : goal.returns-then-is_off
unfolding loop_filter_params loop_filter_table loop_filter_place
returns-then-is_off c = begin _ (struct _ _ _ _ (λ a. refl) (yes _ _ _ (sym c.if-is_off.ensures) (switched_off c.filter_off.ensures)))
