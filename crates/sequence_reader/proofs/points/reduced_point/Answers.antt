use mathlib.Core.Path.{refl}
use Rattle.fill.proofs.Filling.{begin}
use Rattle.sequence_reader.proofs.Pointing.{reduced_laid}
use Rattle.sequence_reader.proofs.points.reduced_point.Goals as goal

pub returns : goal.returns
returns c = begin _ (reduced_laid c.args.at c.in_ok-level.ensures.said refl)
