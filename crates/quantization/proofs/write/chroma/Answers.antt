use Rattle.bits.specs.Codec.{◌▷◌, choose, select, flag, absent, inferred_flag}
use Rattle.quantization.specs.Quantization.{chroma, one_plane, three_planes, diff_uv}
use Rattle.writer.proofs.Walking.{walk}
use Rattle.quantization.proofs.write.chroma.Goals as goal

pub returns-then-planes-eq1 : goal.returns-then-planes-eq1
unfolding chroma one_plane three_planes diff_uv ◌▷◌ choose select flag absent inferred_flag
returns-then-planes-eq1 c = search walk depth 14

pub returns-in_err-diff_uv : goal.returns-in_err-diff_uv
unfolding chroma one_plane three_planes diff_uv ◌▷◌ choose select flag absent inferred_flag
returns-in_err-diff_uv c = search walk depth 14

pub returns : goal.returns
unfolding chroma one_plane three_planes diff_uv ◌▷◌ choose select flag absent inferred_flag
returns c = search walk depth 14
