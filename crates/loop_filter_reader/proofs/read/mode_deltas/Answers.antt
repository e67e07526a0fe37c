use mathlib.Core.Path.{refl}
use borrow.Author.Rules.{rules}
use Rattle.fill.proofs.Filling.{begin, put_halt, put_no}
use Rattle.loop_filter.specs.LoopFilter.{mode_deltas}
use Rattle.numbers.specs.Numbers.{signed_at}
use Rattle.loop_filter_reader.specs.Layout.{modes_place}
use Rattle.loop_filter_reader.proofs.Deltas.{delta_of, put_delta, delta_last}
use Rattle.loop_filter_reader.proofs.read.mode_deltas.Goals as goal

pub returns-in_err-n : goal.returns-in_err-n
unfolding mode_deltas
returns-in_err-n c = begin _ (put_halt _ _ (delta_of (signed_at c.args.old.now 8) _ _ (search rules) c.in_err-n.ensures.said) c.from_residual.ensures.1)

pub returns-in_err-n-2 : goal.returns-in_err-n-2
unfolding mode_deltas modes_place
returns-in_err-n-2 c =
    begin _ (put_delta (signed_at c.args.old.now 8) _ _ (search rules) _ c.in_ok-n.ensures.said (search rules) _ _
    (put_no _ (delta_of (signed_at c.args.old.now 9) _ _ (search rules) c.in_err-n-2.ensures.said) c.from_residual-in_err-n-2.ensures.1))

pub returns : goal.returns
unfolding mode_deltas modes_place
returns c =
    begin _ (put_delta (signed_at c.args.old.now 8) _ _ (search rules) _ c.in_ok-n.ensures.said (search rules) _ _
    (delta_last (signed_at c.args.old.now 9) _ _ (search rules) _ c.in_ok-n-2.ensures.said (search rules) refl))
