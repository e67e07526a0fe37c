use Rattle.bits.specs.Codec.{◌▷◌}
use Rattle.sequence.specs.Sequence.{reduced_general}
use Rattle.writer.proofs.Walking.{walk}
use Rattle.sequence_writer.proofs.write.reduced_general.Goals as goal

pub returns-in_err-reduced_timing : goal.returns-in_err-reduced_timing
unfolding reduced_general ◌▷◌
returns-in_err-reduced_timing c = search walk depth 14

pub returns : goal.returns
unfolding reduced_general ◌▷◌
returns c = search walk depth 14
