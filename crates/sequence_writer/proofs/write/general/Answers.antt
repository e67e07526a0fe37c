use Rattle.bits.specs.Codec.{choose}
use Rattle.sequence.specs.Sequence.{general}
use Rattle.writer.proofs.Walking.{walk}
use Rattle.sequence_writer.proofs.write.general.Goals as goal

pub returns-then-reduced : goal.returns-then-reduced
unfolding general choose
returns-then-reduced c = search walk depth 14

pub returns : goal.returns
unfolding general choose
returns c = search walk depth 14
