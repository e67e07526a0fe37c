-- The record, field by field.
use mathlib.Core.Path.{◌≡◌}
use mathlib.Core.List.{List}
use mathlib.Core.Bool.{Bool}
use Prim.Native.Nat.{ℕ}
use lib.IntN.{ℤ, pos}
use Rattle.quantization.specs.declared.record.QuantizationContext.{QuantizationContext}
use Rattle.quantization.specs.Quantization.{deltas_of}
use Rattle.quantization.specs.declared.record.QuantizationDeltas.{QuantizationDeltas}
use Rattle.quantization.specs.declared.record.QuantizationParams.{QuantizationParams}
use Rattle.quantization_numbers.specs.Numbers.{quantization_context, quantization_params, without_deltas}

module _ (xs : List ℤ) where
  pub quantization_context_is : {a : ℕ} {b : Bool}
      → a ≡ (quantization_context xs).planes
      → b ≡ (quantization_context xs).separate_uv_delta_q
      → ◌≡◌ {A = QuantizationContext} (record { planes = a; separate_uv_delta_q = b }) (quantization_context xs)
  quantization_context_is a b = λ i. record { planes = a i; separate_uv_delta_q = b i }

  pub quantization_params_is : {a : ℕ} {b c : Bool} {d e f : ℕ}
      → a ≡ (quantization_params xs).base_q_idx
      → b ≡ (quantization_params xs).diff_uv_delta
      → c ≡ (quantization_params xs).using_qmatrix
      → d ≡ (quantization_params xs).qm_y
      → e ≡ (quantization_params xs).qm_u
      → f ≡ (quantization_params xs).qm_v
      → ◌≡◌ {A = QuantizationParams} (record { base_q_idx = a; delta_q_y_dc = pos 0; diff_uv_delta = b; delta_q_u_dc = pos 0; delta_q_u_ac = pos 0; delta_q_v_dc = pos 0; delta_q_v_ac = pos 0; using_qmatrix = c; qm_y = d; qm_u = e; qm_v = f }) (without_deltas (quantization_params xs))
  quantization_params_is a b c d e f = λ i. record { base_q_idx = a i; delta_q_y_dc = pos 0; diff_uv_delta = b i; delta_q_u_dc = pos 0; delta_q_u_ac = pos 0; delta_q_v_dc = pos 0; delta_q_v_ac = pos 0; using_qmatrix = c i; qm_y = d i; qm_u = e i; qm_v = f i }

  pub quantization-deltas_is : {a b c d e : ℤ}
      → a ≡ (quantization_params xs).delta_q_y_dc
      → b ≡ (quantization_params xs).delta_q_u_dc
      → c ≡ (quantization_params xs).delta_q_u_ac
      → d ≡ (quantization_params xs).delta_q_v_dc
      → e ≡ (quantization_params xs).delta_q_v_ac
      → ◌≡◌ {A = QuantizationDeltas} (record { y_dc = a; u_dc = b; u_ac = c; v_dc = d; v_ac = e }) (deltas_of (quantization_params xs))
  quantization-deltas_is a b c d e = λ i. record { y_dc = a i; u_dc = b i; u_ac = c i; v_dc = d i; v_ac = e i }
