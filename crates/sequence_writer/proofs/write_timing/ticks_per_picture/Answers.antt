use Rattle.bits.specs.Codec.{choose, absent}
use Rattle.sequence.specs.Timing.{ticks_per_picture}
use Rattle.writer.proofs.Walking.{walk}
use Rattle.sequence_writer.proofs.write_timing.ticks_per_picture.Goals as goal

pub returns-then-equal : goal.returns-then-equal
unfolding ticks_per_picture choose absent
returns-then-equal c = search walk depth 14

pub returns : goal.returns
unfolding ticks_per_picture choose absent
returns c = search walk depth 14
