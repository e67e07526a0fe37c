-- The record's numbers, in the order of the case lines: the context first.
use Rattle.std.specs.Prelude.{List, ℤ, pos}
use Rattle.bits.specs.Walk.{Walk}
use Rattle.quantization.specs.Quantization as quantization
use Rattle.quantization.specs.declared.record.QuantizationParams.{QuantizationParams}
use Rattle.quantization.specs.declared.record.QuantizationContext.{QuantizationContext}
use Rattle.numbers.specs.Numbers.{signed_at, set_at, natural_at}

abbrev pub quantization_context : List ℤ → QuantizationContext
quantization_context xs = record { planes = natural_at xs 0; separate_uv_delta_q = set_at xs 1 }

abbrev pub quantization_params : List ℤ → QuantizationParams
quantization_params xs = record {
  base_q_idx = natural_at xs 2;
  delta_q_y_dc = signed_at xs 3;
  diff_uv_delta = set_at xs 4;
  delta_q_u_dc = signed_at xs 5;
  delta_q_u_ac = signed_at xs 6;
  delta_q_v_dc = signed_at xs 7;
  delta_q_v_ac = signed_at xs 8;
  using_qmatrix = set_at xs 9;
  qm_y = natural_at xs 10;
  qm_u = natural_at xs 11;
  qm_v = natural_at xs 12;
}

-- The record without its deltas, which are handed over apart. Only contracts of functions inside cite this.
abbrev pub without_deltas : QuantizationParams → QuantizationParams
without_deltas q = record {
  base_q_idx = q.base_q_idx;
  delta_q_y_dc = pos 0;
  diff_uv_delta = q.diff_uv_delta;
  delta_q_u_dc = pos 0;
  delta_q_u_ac = pos 0;
  delta_q_v_dc = pos 0;
  delta_q_v_ac = pos 0;
  using_qmatrix = q.using_qmatrix;
  qm_y = q.qm_y;
  qm_u = q.qm_u;
  qm_v = q.qm_v;
}

-- what the numbers have written
abbrev pub quantization_walk : List ℤ → Walk
quantization_walk xs = (quantization.quantization_params (quantization_context xs)).enc (quantization_params xs)
