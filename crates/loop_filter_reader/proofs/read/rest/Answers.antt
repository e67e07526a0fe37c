use mathlib.Core.Path.{refl}
use Rattle.reader.proofs.Reading.{f_of}
use Rattle.fill.proofs.Filling.{begin, no}
use Rattle.fill.proofs.Signs.{put_natural, put_bit}
use Rattle.loop_filter.specs.LoopFilter.{rest}
use Rattle.loop_filter_reader.specs.Layout.{rest_place}
use Rattle.loop_filter_reader.proofs.Deltas.{rest_kept}
use Rattle.loop_filter_reader.proofs.read.rest.Goals as goal

pub returns : goal.returns
unfolding rest rest_place
returns c = begin _ (put_natural _ _ 3 _ _ _ _ (f_of _ _ _ c.in_ok-n.ensures.said) refl (put_bit _ _ _ _ _ c.in_ok-enabled.ensures.said (no _ _ _ c.if-enabled.false (rest_kept _ c.kept_deltas.ensures))))
