use Rattle.bits.specs.Codec.{inferred_flag}
use Rattle.writer.proofs.Walking.{as_same}
use Rattle.writer.proofs.BitWriter.inferred_flag.Goals as goal

pub returns : goal.returns
unfolding inferred_flag
returns c = search as_same
