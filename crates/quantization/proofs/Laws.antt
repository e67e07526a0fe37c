-- The table of 5.9.12 keeps the laws: what is written is read, and what is read was spelled.
use mathlib.Core.Path.{◌≡◌, refl, sym}
use mathlib.Core.Bool.{Bool, true, false, cond, not}
use Prim.Native.Nat.{ℕ}
use lib.IntN.{ℤ, pos}
use Rattle.bits.specs.Codec.{flag, choose, absent, ◌▷◌}
use Rattle.bits.specs.Codes.{su}
use Rattle.bits.specs.Lawful.{loose, Lawful}
use Rattle.bits.proofs.Laws.{via_law, merged_law}
use Rattle.bits.proofs.Leaves.{codec_laws}
use Rattle.bits.proofs.CodeLaws.{su_law}
use Rattle.parts.specs.Codes.{same}
use Rattle.quantization.specs.Quantization.{delta_out, delta_in, read_delta_q, diff_uv, v_coded, v_inferred, v_deltas, uv_deltas, no_uv_deltas, three_planes, one_plane, chroma, v_matrix, matrices, qmatrix, quantization_table, quantization_out, quantization_in, quantization_params}
use Rattle.quantization.specs.declared.record.QuantizationContext.{QuantizationContext}
use Rattle.parts.proofs.Signs.{same_is}
use Rattle.parts.proofs.Laws.{inferred_signed_law}

delta-back : (z : ℤ) → delta_in (delta_out z) ≡ z
delta-back z = go (same z (pos 0)) refl
  where
    go : (b : Bool) → same z (pos 0) ≡ b → cond (not b) z (pos 0) ≡ z
    go true h = sym (same_is z (pos 0) h)
    go false h = refl

delta-coded : (b : Bool) (z : ℤ) → cond b (cond b z (pos 0)) (pos 0) ≡ cond b z (pos 0)
delta-coded true z = refl
delta-coded false z = refl

delta_law : (e : ℕ) → Lawful loose (read_delta_q e)
unfolding read_delta_q ◌▷◌ flag choose su absent
delta_law e = merged_law delta_out delta_in (search (codec_laws, su_law) depth 12) delta-back (λ p. delta-coded p.0 p.1) (λ w. absurd w)

v_coded_law : Lawful loose v_coded
unfolding v_coded
v_coded_law = search (codec_laws, delta_law) depth 12

v_inferred_law : (dc ac : ℤ) → Lawful loose (v_inferred dc ac)
unfolding v_inferred
v_inferred_law dc ac = search (codec_laws, inferred_signed_law) depth 12

v_deltas_law : (diff : Bool) (dc ac : ℤ) → Lawful loose (v_deltas diff dc ac)
unfolding v_deltas
v_deltas_law diff dc ac = search (codec_laws, v_coded_law, v_inferred_law) depth 12

uv_deltas_law : (diff : Bool) → Lawful loose (uv_deltas diff)
unfolding uv_deltas
uv_deltas_law diff = search (codec_laws, delta_law, v_deltas_law) depth 12

no_uv_deltas_law : Lawful loose no_uv_deltas
unfolding no_uv_deltas
no_uv_deltas_law = search (codec_laws, inferred_signed_law, v_inferred_law) depth 12

diff_uv_law : (separate : Bool) → Lawful loose (diff_uv separate)
unfolding diff_uv
diff_uv_law separate = search codec_laws depth 12

chroma_law : (planes : ℕ) (separate : Bool) → Lawful loose (chroma planes separate)
unfolding chroma three_planes one_plane
chroma_law planes separate = search (codec_laws, diff_uv_law, uv_deltas_law, no_uv_deltas_law) depth 12

v_matrix_law : (separate : Bool) (u : ℕ) → Lawful loose (v_matrix separate u)
unfolding v_matrix
v_matrix_law separate u = search codec_laws depth 12

matrices_law : (separate : Bool) → Lawful loose (matrices separate)
unfolding matrices
matrices_law separate = search (codec_laws, v_matrix_law) depth 12

qmatrix_law : (separate : Bool) → Lawful loose (qmatrix separate)
unfolding qmatrix
qmatrix_law separate = search (codec_laws, matrices_law) depth 12

table_law : (context : QuantizationContext) → Lawful loose (quantization_table context)
unfolding quantization_table
table_law context = search (codec_laws, delta_law, chroma_law, qmatrix_law) depth 12

pub quantization_law : (context : QuantizationContext) → Lawful loose (quantization_params context)
unfolding quantization_params
quantization_law context = via_law quantization_out quantization_in (table_law context) (λ a. refl)
