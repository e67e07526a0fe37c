-- The most bits of the quantization parameters.
use mathlib.Core.Path.{refl}
use lib.Dec.{lit≤}
use Rattle.bits.specs.Walk.{bound}
use Rattle.bits.specs.Codec.{◌▷◌, choose, select, via, merged, f, flag, absent, inferred, inferred_flag}
use Rattle.bits.specs.Codes.{su}
use Rattle.parts.specs.Codes.{inferred_signed}
use Rattle.quantization.specs.Quantization.{read_delta_q, diff_uv, v_coded, v_inferred, v_deltas, uv_deltas, no_uv_deltas, three_planes, one_plane, chroma, v_matrix, matrices, qmatrix, QuantizationTable, quantization_table}
use Rattle.quantization.specs.declared.record.QuantizationContext.{QuantizationContext}
use Rattle.bits.proofs.Counting.{unshort, Within}

pub within : (context : QuantizationContext) (v : QuantizationTable) → Within 62 ((quantization_table context).enc v)
unfolding bound unshort read_delta_q diff_uv v_coded v_inferred v_deltas uv_deltas no_uv_deltas three_planes one_plane chroma v_matrix matrices qmatrix quantization_table inferred_signed su ◌▷◌ choose select via merged f flag absent inferred inferred_flag
within context v = record { most = lit≤ tt; own = refl }
