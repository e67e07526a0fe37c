use Rattle.bits.specs.Codec.{choose}
use Rattle.sequence.specs.Tools.{inter_tools}
use Rattle.writer.proofs.Walking.{walk}
use Rattle.sequence_writer.proofs.write_tools.inter_tools.Goals as goal

pub returns-then-reduced : goal.returns-then-reduced
unfolding inter_tools choose
returns-then-reduced c = search walk depth 14

pub returns : goal.returns
unfolding inter_tools choose
returns c = search walk depth 14
