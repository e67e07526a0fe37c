use mathlib.Core.Path.{refl}
use Rattle.reader.proofs.Reading.{f_of}
use Rattle.fill.proofs.Filling.{begin, yes, no, put_no, nothing_pair}
use Rattle.fill.proofs.Signs.{put_natural, natural_last}
use Rattle.loop_filter.specs.LoopFilter.{chroma_levels}
use Rattle.loop_filter_reader.specs.Layout.{chroma_place}
use Rattle.loop_filter_reader.proofs.read.chroma_levels.Goals as goal

pub returns-then-coded : goal.returns-then-coded
unfolding chroma_levels chroma_place
returns-then-coded c = begin _ (yes _ _ _ c.if-coded.true (put_natural _ _ 6 _ _ _ _ (f_of _ _ _ c.in_ok-n.ensures.said) refl (natural_last _ _ 6 _ _ (f_of _ _ _ c.in_ok-n-2.ensures.said) refl refl)))

pub returns : goal.returns
unfolding chroma_levels chroma_place
returns c = begin _ (no _ _ _ c.if-coded.false (nothing_pair _ _ _ _ _ _ _ refl))

pub returns-in_err-n-2 : goal.returns-in_err-n-2
unfolding chroma_levels chroma_place
returns-in_err-n-2 c =
    begin _ (yes _ _ _ c.if-coded.true (put_natural _ _ 6 _ _ _ _ (f_of _ _ _ c.in_ok-n.ensures.said) refl (put_no _ (f_of _ _ _ c.in_err-n-2.ensures.said) c.from_residual-in_err-n-2.ensures.1)))
