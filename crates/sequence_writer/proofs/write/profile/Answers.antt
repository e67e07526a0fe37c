use Rattle.bits.specs.Codec.{within, f}
use Rattle.sequence.specs.Sequence.{profile}
use Rattle.writer.proofs.Walking.{walk}
use Rattle.sequence_writer.proofs.write.profile.Goals as goal

pub returns-in_err-f : goal.returns-in_err-f
unfolding profile within f
returns-in_err-f c = search walk depth 14

pub returns : goal.returns
unfolding profile within f
returns c = search walk depth 14
