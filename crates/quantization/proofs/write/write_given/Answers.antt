use native.Mathlib.Omega.{arith}
use lib.Dec.{lit≤}
use Rattle.quantization.specs.Quantization.{QuantizationTable, quantization_table}
use Rattle.quantization.specs.declared.record.QuantizationContext.{QuantizationContext}
use Rattle.writer.proofs.Walking.{lent}
use Rattle.parts.proofs.Writing.{Near, once}
use Rattle.quantization.proofs.Counts.{within}
use Rattle.quantization.proofs.write.write_given.Goals as goal

near : (context : QuantizationContext) (v : QuantizationTable) → Near 24 ((quantization_table context).enc v)
near context v = record { most = omega (arith, (within context v).most); size = lit≤ tt }

pub returns : goal.returns
returns c = search (once, near, lent {n = 24} c.quantization_params-walk.ensures)
