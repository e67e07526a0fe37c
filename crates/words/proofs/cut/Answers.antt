use Rattle.words.proofs.Sentences.{cut_at}
use Rattle.words.proofs.cut.Goals as goal

pub returns : goal.returns
returns c = rw c.copy_from_slice.ensures.after (cut_at c.args.s.now c.args.text.now c.min-n.result c.min-n.ensures (cc))
