use lib.Dec.{lit≤}
use Rattle.writer.proofs.Walking.{off}
use Rattle.sequence.specs.Fields.{sequence_out}
use Rattle.sequence.proofs.Counts.{few}
use Rattle.sequence_writer.proofs.Arrays.{pad}
use Rattle.sequence_writer.proofs.write.padded_payload.Goals as goal

pub returns-in_err-sequence_header_obu : goal.returns-in_err-sequence_header_obu
returns-in_err-sequence_header_obu c = search off

pub returns : goal.returns
returns c = pad (few (sequence_out c.args.h)) (lit≤ tt) c.requires c.sequence_header_obu.ensures c.branch-sequence_header_obu.ensures c.in_ok-sequence_header_obu.is c.trailing_bits.ensures
