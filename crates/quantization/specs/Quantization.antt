-- 5.9.12 and 5.9.13: the quantization parameters. Each table is the contract of the writer's function of its name.
use Rattle.std.specs.Prelude.{Bool, false, cond, not, ℕ, eqb, ℤ, pos}
use Rattle.bits.specs.Codec.{Codec, f, flag, absent, inferred, inferred_flag, choose, select, via, merged, ◌▷◌}
use Rattle.bits.specs.Codes.{su}
use Rattle.bits.specs.Elements.{base_q_idx, delta_q_y_dc, diff_uv_delta, delta_q_u_dc, delta_q_u_ac, delta_q_v_dc, delta_q_v_ac, qm_y, qm_u, qm_v}
use Rattle.parts.specs.Codes.{same, inferred_signed}
use Rattle.quantization.specs.declared.record.QuantizationParams.{QuantizationParams}
use Rattle.quantization.specs.declared.record.QuantizationDeltas.{QuantizationDeltas}
use Rattle.quantization.specs.declared.record.QuantizationContext.{QuantizationContext}

-- 5.9.13: a flag, and su(7) where it is set. Zero is written without; a set flag and zero are read as well.
abbrev pub delta_out : ℤ → Bool × ℤ
delta_out z = (not (same z (pos 0)), z)

abbrev pub delta_in : Bool × ℤ → ℤ
delta_in p = cond p.0 p.1 (pos 0)

unfoldable pub read_delta_q : ℕ → Codec ℤ
read_delta_q e = merged delta_out delta_in (flag ▷ λ coded. choose coded (su 7 e 0) (absent (pos 0)))

unfoldable pub diff_uv : Bool → Codec Bool
diff_uv separate = select separate flag (inferred_flag diff_uv_delta 0 false)

unfoldable pub v_coded : Codec (ℤ × ℤ)
v_coded = read_delta_q delta_q_v_dc ▷ λ _. read_delta_q delta_q_v_ac

unfoldable pub v_inferred : ℤ → ℤ → Codec (ℤ × ℤ)
v_inferred dc ac = inferred_signed delta_q_v_dc dc ▷ λ _. inferred_signed delta_q_v_ac ac

-- without a difference, the deltas of V are those of U
unfoldable pub v_deltas : Bool → ℤ → ℤ → Codec (ℤ × ℤ)
v_deltas diff dc ac = choose diff v_coded (v_inferred dc ac)

abbrev pub Deltas : Type 0
Deltas = ℤ × (ℤ × (ℤ × ℤ))

unfoldable pub uv_deltas : Bool → Codec Deltas
uv_deltas diff =
    read_delta_q delta_q_u_dc ▷ λ dc.
    read_delta_q delta_q_u_ac ▷ λ ac.
    v_deltas diff dc ac

-- with one plane all four are 0
unfoldable pub no_uv_deltas : Codec Deltas
no_uv_deltas =
    inferred_signed delta_q_u_dc (pos 0) ▷ λ dc.
    inferred_signed delta_q_u_ac (pos 0) ▷ λ ac.
    v_inferred dc ac

abbrev pub Chroma : Type 0
Chroma = Bool × Deltas

unfoldable pub three_planes : Bool → Codec Chroma
three_planes separate = diff_uv separate ▷ λ diff. uv_deltas diff

unfoldable pub one_plane : Codec Chroma
one_plane = absent false ▷ λ _. no_uv_deltas

unfoldable pub chroma : ℕ → Bool → Codec Chroma
chroma planes separate = choose (eqb planes 1) one_plane (three_planes separate)

abbrev pub Matrices : Type 0
Matrices = ℕ × (ℕ × ℕ)

unfoldable pub v_matrix : Bool → ℕ → Codec ℕ
v_matrix separate u = choose separate (f 4 qm_v 0) (inferred qm_v 0 u)

unfoldable pub matrices : Bool → Codec Matrices
matrices separate =
    f 4 qm_y 0 ▷ λ _.
    f 4 qm_u 0 ▷ λ u.
    v_matrix separate u

unfoldable pub qmatrix : Bool → Codec (Bool × Matrices)
qmatrix separate = flag ▷ λ coded. choose coded (matrices separate) (absent (0, (0, 0)))

abbrev pub QuantizationTable : Type 0
QuantizationTable = ℕ × (ℤ × (Chroma × (Bool × Matrices)))

unfoldable pub quantization_table : QuantizationContext → Codec QuantizationTable
quantization_table context =
    f 8 base_q_idx 0 ▷ λ _.
    read_delta_q delta_q_y_dc ▷ λ _.
    chroma context.planes context.separate_uv_delta_q ▷ λ _.
    qmatrix context.separate_uv_delta_q

-- the record for its table, and its deltas apart
abbrev pub v_out : QuantizationDeltas → ℤ × ℤ
v_out d = (d.v_dc, d.v_ac)

abbrev pub uv_out : QuantizationDeltas → Deltas
uv_out d = (d.u_dc, (d.u_ac, v_out d))

abbrev pub deltas_of : QuantizationParams → QuantizationDeltas
deltas_of q = record { y_dc = q.delta_q_y_dc; u_dc = q.delta_q_u_dc; u_ac = q.delta_q_u_ac; v_dc = q.delta_q_v_dc; v_ac = q.delta_q_v_ac }

abbrev pub matrices_out : QuantizationParams → Matrices
matrices_out q = (q.qm_y, (q.qm_u, q.qm_v))

abbrev pub qmatrix_out : QuantizationParams → Bool × Matrices
qmatrix_out q = (q.using_qmatrix, matrices_out q)

-- what a record has written with these deltas in place of its own
abbrev pub given : QuantizationParams → QuantizationDeltas → QuantizationTable
given q d = (q.base_q_idx, (d.y_dc, ((q.diff_uv_delta, uv_out d), qmatrix_out q)))

abbrev pub quantization_out : QuantizationParams → QuantizationTable
quantization_out q = given q (deltas_of q)

abbrev pub quantization_in : QuantizationTable → QuantizationParams
quantization_in = λ (base, (y-dc, ((diff, (u-dc, (u-ac, (v-dc, v-ac)))), (coded, (y, (u, v)))))). record {
  base_q_idx = base;
  delta_q_y_dc = y-dc;
  diff_uv_delta = diff;
  delta_q_u_dc = u-dc;
  delta_q_u_ac = u-ac;
  delta_q_v_dc = v-dc;
  delta_q_v_ac = v-ac;
  using_qmatrix = coded;
  qm_y = y;
  qm_u = u;
  qm_v = v;
}

unfoldable pub quantization_params : QuantizationContext → Codec QuantizationParams
quantization_params context = via quantization_out quantization_in (quantization_table context)
