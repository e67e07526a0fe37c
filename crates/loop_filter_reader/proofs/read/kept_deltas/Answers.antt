use mathlib.Core.Path.{refl, sym, ◌∙◌}
use Rattle.std.proofs.lemmas.Slice.{put_mid-paste}
use Rattle.loop_filter_reader.proofs.Deltas.{kept}
use Rattle.loop_filter_reader.proofs.read.kept_deltas.Goals as goal

pub returns : goal.returns
returns c = put_mid-paste 10 10 c.args.n.now c.copy_from_slice.new.self c.args.old.now 10 c.copy_from_slice.ensures.after refl (sym c.told-old) ∙ kept c.args.old.now c.args.n.now c.told-old c.told-n
