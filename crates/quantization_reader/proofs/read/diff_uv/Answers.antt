use Rattle.quantization.specs.Quantization.{diff_uv}
use Rattle.parts_reader.proofs.Storing.{picked_no, said_known_flag}
use Rattle.quantization_reader.proofs.read.diff_uv.Goals as goal

pub returns : goal.returns
unfolding diff_uv
returns c = picked_no _ _ _ c.if-separate.false (said_known_flag _ _ _)
