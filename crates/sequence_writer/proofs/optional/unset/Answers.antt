use Rattle.bits.specs.Codec.{inferred_flag}
use Rattle.writer.proofs.Walking.{walk}
use Rattle.sequence_writer.proofs.optional.unset.Goals as goal

pub returns : goal.returns
unfolding inferred_flag
returns c = search walk depth 14
