use Rattle.quantization.specs.Quantization.{v_deltas}
use Rattle.fill.proofs.Filling.{begin, no}
use Rattle.quantization_reader.proofs.Deltas.{same-deltas}
use Rattle.quantization_reader.proofs.read.v_deltas.Goals as goal

pub returns : goal.returns
unfolding v_deltas
returns c = begin _ (no _ _ _ c.if-diff.false (same-deltas _ _ c.ranges.dc c.ranges.ac))
