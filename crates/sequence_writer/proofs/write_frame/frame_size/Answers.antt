use Rattle.bits.specs.Codec.{via, checked}
use Rattle.sequence.specs.Frame.{frame_size}
use Rattle.writer.proofs.Walking.{walk}
use Rattle.sequence_writer.proofs.write_frame.frame_size.Goals as goal

pub returns-in_err-bits_hold : goal.returns-in_err-bits_hold
unfolding frame_size via checked
returns-in_err-bits_hold c = search walk depth 14

pub returns-in_err-bits_hold-2 : goal.returns-in_err-bits_hold-2
unfolding frame_size via checked
returns-in_err-bits_hold-2 c = search walk depth 14

pub returns : goal.returns
unfolding frame_size via checked
returns c = search walk depth 14
