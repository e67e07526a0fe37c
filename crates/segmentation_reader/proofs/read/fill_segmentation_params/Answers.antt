use Rattle.parts_reader.proofs.Telling.{no_begin, no_part, all_part, place_fits}
use Rattle.segmentation_reader.proofs.Enabling.{no_flag, off_read, on_read}
use Rattle.segmentation_reader.proofs.read.fill_segmentation_params.Goals as goal

pub returns-in_err-r : goal.returns-in_err-r
returns-in_err-r c = no_begin _ c.in_err-r.ensures c.from_residual.ensures.1

pub returns-in_err-flag : goal.returns-in_err-flag
returns-in_err-flag c = no_part _ c.in_ok-r.ensures (no_flag c.args.context c.in_err-flag.ensures.said) c.from_residual-in_err-flag.ensures.1

pub overflow_cast-result : goal.overflow_cast-result
overflow_cast-result c = place_fits c.in_ok-r.ensures (off_read c.args.context c.in_ok-flag.ensures.said c.if-not-branch.true c.disabled.ensures)

pub returns-then-not-branch : goal.returns-then-not-branch
returns-then-not-branch c = all_part _ c.in_ok-r.ensures (off_read c.args.context c.in_ok-flag.ensures.said c.if-not-branch.true c.disabled.ensures)

pub returns-in_err-enabled_params : goal.returns-in_err-enabled_params
returns-in_err-enabled_params c =
    no_part _ c.in_ok-r.ensures (on_read c.args.context c.in_ok-flag.ensures.said c.if-not-branch.false c.in_err-enabled_params.ensures) c.from_residual-in_err-enabled_params.ensures.1

pub overflow_cast-result-2 : goal.overflow_cast-result-2
overflow_cast-result-2 c = place_fits c.in_ok-r.ensures (on_read c.args.context c.in_ok-flag.ensures.said c.if-not-branch.false c.in_ok-enabled_params.ensures)

pub returns : goal.returns
returns c = all_part _ c.in_ok-r.ensures (on_read c.args.context c.in_ok-flag.ensures.said c.if-not-branch.false c.in_ok-enabled_params.ensures)
