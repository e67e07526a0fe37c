use Rattle.std.proofs.Common.{arith, ◌∙◌, ◌/◌}
use Rattle.bits.proofs.Places.{end_is}
use Rattle.writer.proofs.Windows.{put-word, window_put}
use Rattle.writer.proofs.store.put_window.Goals as goal

pub slice_bounds-copy_from_slice-end : goal.slice_bounds-copy_from_slice-end
slice_bounds-copy_from_slice-end c = omega (arith, c.requires, end_is c.args.out.now)

pub returns : goal.returns
returns c =
    window_put _ c.args.at c.args.width c.args.value c.requires.1 c.args.out.now c.window.ensures.bits c.blend-w.ensures
    (put-word c.args.out.now (c.args.at / 8) _ c.requires.2 c.window.ensures.bytes (c.copy_from_slice.ensures.after ∙ c.to_be_bytes.ensures))
