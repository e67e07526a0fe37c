use Rattle.bits.specs.Codec.{◌▷◌, via, absent, inferred_flag}
use Rattle.sequence.specs.Points.{reduced_delay}
use Rattle.writer.proofs.Walking.{walk}
use Rattle.sequence_writer.proofs.write_points.reduced_delay.Goals as goal

pub returns : goal.returns
unfolding reduced_delay ◌▷◌ via absent inferred_flag
returns c = search walk depth 14
