-- How write_delta_q meets its table, and a record that of its deltas apart.
use mathlib.Core.Path.{◌≡◌, ap}
use mathlib.Core.List.{List}
use mathlib.Core.Bool.{Bool, true, false, not}
use Prim.Native.Nat.{ℕ}
use lib.IntN.{ℤ, pos}
use mir.Syntax.{w32}
use mir.Val.{SFits, to_z, of_z}
use Rattle.bits.specs.Walk.{mark, ◌⊕◌}
use Rattle.bits.specs.Codec.{via, merged, ◌▷◌, flag, choose, absent}
use Rattle.bits.specs.Codes.{su}
use Rattle.bits.specs.Elements.{delta_q_u_dc, delta_q_u_ac}
use Rattle.bits.specs.Written.{Answer}
use Rattle.writer.specs.Walked.{Walked}
use Rattle.writer.specs.declared.BitWriter.{BitWriter}
use Rattle.writer.proofs.Walking.{Answer as Step}
use Rattle.parts.specs.Codes.{same}
use Rattle.parts.specs.Written.{Writes}
use Rattle.quantization.specs.Quantization.{read_delta_q, v_deltas, uv_deltas, quantization_table, deltas_of, given, quantization_params}
use Rattle.quantization.specs.declared.record.QuantizationParams.{QuantizationParams}
use Rattle.quantization.specs.declared.record.QuantizationDeltas.{QuantizationDeltas}
use Rattle.quantization.specs.declared.record.QuantizationContext.{QuantizationContext}
use Rattle.parts.proofs.Flags.{clear, set}
use Rattle.parts.proofs.Signs.{same_eq, same_ne, word, word_is, zero_fits}

module _ (z : ℤ) (f : SFits w32 z) where
  is_zero : of_z w32 z ≡ 0 → same z (pos 0) ≡ true
  is_zero h = same_eq z (pos 0) (word_is w32 z (pos 0) f (zero_fits w32) h)

  not-zero : (of_z w32 z ≡ 0 → ⊥) → same z (pos 0) ≡ false
  not-zero h = same_ne z (pos 0) (λ q. h (ap (of_z w32) q))

module _ (e : ℕ) (z : ℤ) {c d : BitWriter} {s : Step} (f : SFits w32 z) where
  pub delta-zero : of_z w32 z ≡ 0 → Walked (mark false) c d s → Walked ((read_delta_q e).enc z) c d s
  unfolding read_delta_q merged ◌▷◌ flag choose absent
  delta-zero h g = clear (ap not (is_zero z f h)) g

  pub delta-set : (of_z w32 z ≡ 0 → ⊥) → Walked (mark true ⊕ (su 7 e 0).enc (to_z w32 (of_z w32 z))) c d s → Walked ((read_delta_q e).enc z) c d s
  unfolding read_delta_q merged ◌▷◌ flag choose absent
  delta-set h g = set (ap not (not-zero z f h)) (rw (word w32 z f.sfits) at g)

-- the deltas of V go by those of U as they are coded
pub uv_walk : (diff : Bool) (dc ac : ℤ) (v : ℤ × ℤ) {c d : BitWriter} {s : Step}
    → Walked ((read_delta_q delta_q_u_dc).enc dc ⊕ (read_delta_q delta_q_u_ac).enc ac ⊕ (v_deltas diff dc ac).enc v) c d s → Walked ((uv_deltas diff).enc (dc, (ac, v))) c d s
unfolding uv_deltas read_delta_q merged ◌▷◌
uv_walk diff dc ac v g = g

-- a record is written as with its own deltas apart
pub as_given : (context : QuantizationContext) (q : QuantizationParams) {d : QuantizationDeltas} {place : ℕ} {xs ys : List ℕ} {r : Answer} → d ≡ deltas_of q
    → Writes ((quantization_table context).enc (given q d)) place xs r ys → Writes ((quantization_params context).enc q) place xs r ys
unfolding quantization_params via
as_given context q e w = rw e at w
