use Rattle.bits.specs.Codec.{◌▷◌, inferred}
use Rattle.restoration.specs.Restoration.{no_kinds}
use Rattle.writer.proofs.Walking.{walk}
use Rattle.restoration.proofs.write.no_kinds.Goals as goal

pub returns-in_err-demand : goal.returns-in_err-demand
unfolding no_kinds ◌▷◌ inferred
returns-in_err-demand c = search walk depth 14

pub returns-in_err-demand-2 : goal.returns-in_err-demand-2
unfolding no_kinds ◌▷◌ inferred
returns-in_err-demand-2 c = search walk depth 14

pub returns : goal.returns
unfolding no_kinds ◌▷◌ inferred
returns c = search walk depth 14
