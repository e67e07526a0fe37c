use Rattle.fill.proofs.Filling.{begin, no}
use Rattle.fill.proofs.Signs.{put_bit}
use Rattle.loop_filter.specs.LoopFilter.{delta_update}
use Rattle.loop_filter_reader.specs.Layout.{update_place}
use Rattle.loop_filter_reader.proofs.Deltas.{kept_laid}
use Rattle.loop_filter_reader.proofs.read.delta_update.Goals as goal

pub returns : goal.returns
unfolding delta_update update_place
returns c = begin _ (put_bit _ _ _ _ _ c.in_ok-update.ensures.said (no _ _ _ c.if-update.false (kept_laid _ c.kept_deltas.ensures)))
