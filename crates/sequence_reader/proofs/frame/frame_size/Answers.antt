use native.Mathlib.Omega.{arith}
use Rattle.reader.proofs.Reading.{f_fits}
use Rattle.sequence_reader.proofs.frame.frame_size.Goals as goal

pub max_frame_size-requires : goal.max_frame_size-requires
max_frame_size-requires c = (omega (arith, f_fits 4 0 0 c.in_ok-width_bits.ensures.said), omega (arith, f_fits 4 0 0 c.in_ok-height_bits.ensures.said))
