-- Where each quantization parameter stands in the record's numbers, behind the context's.
use Rattle.std.specs.Prelude.{List, Bool, ℤ}
use Rattle.bits.specs.Codec.{Codec}
use Rattle.fill.specs.Fills.{same, natural, signed_bit, of, ◌▸◌}
use Rattle.parts_reader.specs.Reading.{In, number_at}
use Rattle.quantization.specs.declared.record.QuantizationParams.{QuantizationParams}
use Rattle.quantization.specs.Quantization.{Deltas, Chroma, Matrices, quantization_out, quantization_in, quantization_params}
use Rattle.quantization_numbers.specs.Numbers.{quantization_context}

unfoldable pub v_place : In (ℤ × ℤ)
v_place = number_at 7 same ▸ number_at 8 same

unfoldable pub uv_place : In Deltas
uv_place = number_at 5 same ▸ number_at 6 same ▸ v_place

unfoldable pub chroma_place : In Chroma
chroma_place = number_at 4 signed_bit ▸ uv_place

unfoldable pub matrices_place : In Matrices
matrices_place = number_at 10 natural ▸ number_at 11 natural ▸ number_at 12 natural

unfoldable pub qmatrix_place : In (Bool × Matrices)
qmatrix_place = number_at 9 signed_bit ▸ matrices_place

unfoldable pub quantization_place : In QuantizationParams
quantization_place = of quantization_out quantization_in (number_at 2 natural ▸ number_at 3 same ▸ chroma_place ▸ qmatrix_place)

-- the table by the context that stands in the numbers
abbrev pub quantization_by : List ℤ → Codec QuantizationParams
quantization_by ns = quantization_params (quantization_context ns)
