use Rattle.std.proofs.Common.{refl}
use Rattle.words.specs.Names.{names}
use Rattle.words.specs.Text.{find}
use Rattle.words.proofs.Found.{listed, all_agree}
use Rattle.words.proofs.names.name.Goals as goal

pub returns : goal.returns
unfolding names find all_agree
returns c = listed names _ c.args.element _ c.nth_word.ensures refl
