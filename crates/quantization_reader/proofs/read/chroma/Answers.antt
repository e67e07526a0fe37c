use Rattle.quantization.specs.Quantization.{chroma}
use Rattle.fill.proofs.Filling.{begin, yes_eq}
use Rattle.quantization_reader.proofs.Deltas.{no_chroma}
use Rattle.quantization_reader.proofs.read.chroma.Goals as goal

pub returns-then-planes-eq1 : goal.returns-then-planes-eq1
unfolding chroma
returns-then-planes-eq1 c = begin _ (yes_eq _ _ _ _ c.if-planes-eq1.true no_chroma)
