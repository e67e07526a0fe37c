use Rattle.bits.specs.Codec.{◌▷◌}
use Rattle.restoration.specs.Restoration.{shifts}
use Rattle.writer.proofs.Walking.{walk}
use Rattle.restoration.proofs.Steps.{uv_by}
use Rattle.restoration.proofs.write.shifts.Goals as goal

pub returns-in_err-unit_shift : goal.returns-in_err-unit_shift
unfolding shifts ◌▷◌
returns-in_err-unit_shift c = search walk depth 14

pub returns : goal.returns
unfolding shifts ◌▷◌
returns c = search (walk, uv_by) depth 14
