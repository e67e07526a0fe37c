-- The part is written as its numbers say.
use mathlib.Core.Path.{◌≡◌}
use mathlib.Core.List.{List}
use Prim.Native.Nat.{ℕ}
use lib.IntN.{ℤ}
use Rattle.bits.specs.Walk.{run}
use Rattle.bits.specs.Written.{Answer}
use Rattle.parts.specs.Written.{Writes}
use Rattle.bits.specs.Codec.{via}
use Rattle.quantization.specs.Quantization as quantization
use Rattle.quantization.specs.Quantization.{quantization_table, deltas_of, given}
use Rattle.quantization.specs.declared.record.QuantizationDeltas.{QuantizationDeltas}
use Rattle.quantization.specs.declared.record.QuantizationParams.{QuantizationParams}
use Rattle.quantization.specs.declared.record.QuantizationContext.{QuantizationContext}
use Rattle.numbers.proofs.Writing.{written_as}
use Rattle.quantization_numbers.specs.Numbers.{quantization_context, quantization_params, without_deltas, quantization_walk}

pub quantization_crosses : {place : ℕ} {out end : List ℕ} {r : Answer} (xs : List ℤ) {p : QuantizationParams} {d : QuantizationDeltas} {k : QuantizationContext} → p ≡ without_deltas (quantization_params xs) → d ≡ deltas_of (quantization_params xs) → k ≡ quantization_context xs
    → Writes ((quantization_table k).enc (given p d)) place out r end → Writes (quantization_walk xs) place out r end
unfolding quantization.quantization_params via
quantization_crosses xs e f g w = written_as (λ i. run ((quantization_table (g i)).enc (given (e i) (f i)))) w
