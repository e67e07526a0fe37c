use Rattle.bits.specs.Codec.{◌▷◌, choose, absent, inferred_flag}
use Rattle.restoration.specs.Restoration.{uses}
use Rattle.writer.proofs.Walking.{walk}
use Rattle.restoration.proofs.write.uses.Goals as goal

pub returns-in_err-inferred_flag : goal.returns-in_err-inferred_flag
unfolding uses ◌▷◌ choose absent inferred_flag
returns-in_err-inferred_flag c = search walk depth 14

pub returns-in_err-inferred_flag-2 : goal.returns-in_err-inferred_flag-2
unfolding uses ◌▷◌ choose absent inferred_flag
returns-in_err-inferred_flag-2 c = search walk depth 14

pub returns-then-restored : goal.returns-then-restored
unfolding uses ◌▷◌ choose absent inferred_flag
returns-then-restored c = search walk depth 14

pub returns : goal.returns
unfolding uses ◌▷◌ choose absent inferred_flag
returns c = search walk depth 14
