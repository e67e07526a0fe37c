use Rattle.quantization.specs.Quantization.{qmatrix}
use Rattle.quantization_reader.specs.Layout.{qmatrix_place}
use Rattle.fill.proofs.Filling.{begin, no}
use Rattle.fill.proofs.Signs.{put_bit}
use Rattle.quantization_reader.proofs.Deltas.{no_matrices}
use Rattle.quantization_reader.proofs.read.qmatrix.Goals as goal

pub returns : goal.returns
unfolding qmatrix qmatrix_place
returns c = begin _ (put_bit _ _ _ _ _ c.in_ok-using.ensures.said (no _ _ _ c.if-using.false no_matrices))
