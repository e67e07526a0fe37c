use Rattle.writer.proofs.Windows.{window_room}
use Rattle.writer.proofs.store.put.Goals as goal

pub put_window-requires : goal.put_window-requires
put_window-requires c = (c.if-width-gt0.true, c.if-width-le32.true, window_room c.args.out.now c.args.at c.if-at-out.true c.if-at.true)
