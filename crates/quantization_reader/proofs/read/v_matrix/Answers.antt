use Rattle.quantization.specs.Quantization.{v_matrix}
use Rattle.parts_reader.proofs.Storing.{said_no, said_known}
use Rattle.quantization_reader.proofs.read.v_matrix.Goals as goal

pub returns : goal.returns
unfolding v_matrix
returns c = said_no _ _ _ c.if-separate.false (said_known _ _ _)
