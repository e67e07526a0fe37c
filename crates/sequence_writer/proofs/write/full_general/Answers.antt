use Rattle.bits.specs.Codec.{◌▷◌, select, via, flag, inferred_flag}
use Rattle.writer.proofs.Walking.{walk}
use Rattle.sequence.specs.Optional.{flag_if}
use Rattle.sequence.specs.Timing.{timing}
use Rattle.sequence.specs.Sequence.{full_general}
use Rattle.sequence_writer.proofs.Sizes.{delay_few}
use Rattle.sequence_writer.proofs.write.full_general.Goals as goal

pub returns-in_err-timing : goal.returns-in_err-timing
unfolding full_general ◌▷◌
returns-in_err-timing c = search walk depth 14

pub delay_width-width-requires : goal.delay_width-width-requires
delay_width-width-requires c = delay_few c.branch-timing.ensures c.in_ok-timing.is c.args.h c.timing.ensures

-- the width that the code computes
pub returns : goal.returns
unfolding full_general timing flag_if ◌▷◌ select via flag inferred_flag
returns c = let g = rw c.delay_width-width.ensures at c.points.ensures in search walk depth 14
