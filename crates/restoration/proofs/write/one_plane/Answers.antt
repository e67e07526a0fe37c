use Rattle.bits.specs.Codec.{◌▷◌, f, absent}
use Rattle.restoration.specs.Restoration.{one_plane, one_kind}
use Rattle.writer.proofs.Walking.{walk}
use Rattle.restoration.proofs.Steps.{one_by}
use Rattle.restoration.proofs.write.one_plane.Goals as goal

pub returns-in_err-f : goal.returns-in_err-f
unfolding one_plane one_kind ◌▷◌ f absent
returns-in_err-f c = search walk depth 14

pub returns : goal.returns
unfolding one_plane one_kind ◌▷◌ f absent
returns c = search (walk, one_by) depth 14
