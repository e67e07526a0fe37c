use mathlib.Core.Path.{◌∙◌}
use borrow.Author.Tests.{le-leb}
use Rattle.sequence_writer.proofs.Sizes.{wide_holds}
use Rattle.sequence_writer.proofs.write_frame.holds.Goals as goal

pub returns-then-bits_minus_1-ge31 : goal.returns-then-bits_minus_1-ge31
returns-then-bits_minus_1-ge31 c = le-leb 31 c.args.bits_minus_1 c.if-bits_minus_1-ge31.true ∙ wide_holds c.args.bits_minus_1 c.args.size c.if-bits_minus_1-ge31.true c.ranges.size.fits
