use Rattle.bits.specs.Codec.{◌▷◌, via, absent, inferred_flag}
use Rattle.sequence.specs.Timing.{reduced_timing}
use Rattle.writer.proofs.Walking.{walk}
use Rattle.sequence_writer.proofs.write_timing.reduced_timing.Goals as goal

pub returns : goal.returns
unfolding reduced_timing ◌▷◌ via absent inferred_flag
returns c = search walk depth 14
