use Rattle.bits.specs.Codec.{◌▷◌}
use Rattle.parts.specs.Codes.{inferred_signed}
use Rattle.quantization.specs.Quantization.{no_uv_deltas}
use Rattle.writer.proofs.Walking.{walk}
use Rattle.parts.proofs.Signs.{signs}
use Rattle.quantization.proofs.write.no_uv_deltas.Goals as goal

pub returns-in_err-inferred_delta : goal.returns-in_err-inferred_delta
unfolding no_uv_deltas ◌▷◌ inferred_signed
returns-in_err-inferred_delta c = search (walk, signs) depth 14

pub returns-in_err-inferred_delta-2 : goal.returns-in_err-inferred_delta-2
unfolding no_uv_deltas ◌▷◌ inferred_signed
returns-in_err-inferred_delta-2 c = search (walk, signs) depth 14

pub returns : goal.returns
unfolding no_uv_deltas ◌▷◌ inferred_signed
returns c = search (walk, signs) depth 14
