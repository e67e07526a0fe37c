use Rattle.bits.specs.Codec.{◌▷◌, choose, flag, absent}
use Rattle.quantization.specs.Quantization.{qmatrix}
use Rattle.writer.proofs.Walking.{walk}
use Rattle.quantization.proofs.write.qmatrix.Goals as goal

pub returns-in_err-flag : goal.returns-in_err-flag
unfolding qmatrix ◌▷◌ choose flag absent
returns-in_err-flag c = search walk depth 14

pub returns-then-q : goal.returns-then-q
unfolding qmatrix ◌▷◌ choose flag absent
returns-then-q c = search walk depth 14

pub returns : goal.returns
unfolding qmatrix ◌▷◌ choose flag absent
returns c = search walk depth 14
