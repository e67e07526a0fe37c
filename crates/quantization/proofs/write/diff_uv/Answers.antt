use Rattle.bits.specs.Codec.{select, flag, inferred_flag}
use Rattle.quantization.specs.Quantization.{diff_uv}
use Rattle.writer.proofs.Walking.{walk}
use Rattle.quantization.proofs.write.diff_uv.Goals as goal

pub returns-then-separate : goal.returns-then-separate
unfolding diff_uv select flag inferred_flag
returns-then-separate c = search walk depth 14

pub returns : goal.returns
unfolding diff_uv select flag inferred_flag
returns c = search walk depth 14
