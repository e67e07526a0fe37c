use Rattle.bits.specs.Codec.{choose, absent}
use Rattle.sequence.specs.Timing.{timing_info_if}
use Rattle.writer.proofs.Walking.{walk}
use Rattle.sequence_writer.proofs.write_timing.timing_info_if.Goals as goal

pub returns-then-present : goal.returns-then-present
unfolding timing_info_if choose absent
returns-then-present c = search walk depth 14

pub returns : goal.returns
unfolding timing_info_if choose absent
returns c = search walk depth 14
