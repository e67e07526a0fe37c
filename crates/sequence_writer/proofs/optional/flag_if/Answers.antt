use Rattle.bits.specs.Codec.{select, flag, inferred_flag}
use Rattle.sequence.specs.Optional.{flag_if}
use Rattle.writer.proofs.Walking.{walk}
use Rattle.sequence_writer.proofs.optional.flag_if.Goals as goal

pub returns-then-coded : goal.returns-then-coded
unfolding flag_if select flag inferred_flag
returns-then-coded c = search walk depth 14

pub returns : goal.returns
unfolding flag_if select flag inferred_flag
returns c = search walk depth 14
