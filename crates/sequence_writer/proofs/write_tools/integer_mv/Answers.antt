use Rattle.bits.specs.Codec.{choose}
use Rattle.sequence.specs.Tools.{integer_mv}
use Rattle.writer.proofs.Walking.{walk}
use Rattle.sequence_writer.proofs.write_tools.integer_mv.Goals as goal

pub returns-then-screen-gt0 : goal.returns-then-screen-gt0
unfolding integer_mv choose
returns-then-screen-gt0 c = search walk depth 14

pub returns : goal.returns
unfolding integer_mv choose
returns c = search walk depth 14
