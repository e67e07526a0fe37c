-- Where each loop restoration parameter stands in the record's numbers, behind the context's.
use Rattle.std.specs.Prelude.{List, ℕ, ℤ}
use Rattle.bits.specs.Codec.{Codec}
use Rattle.fill.specs.Fills.{natural, signed_bit, of, ◌▸◌}
use Rattle.parts_reader.specs.Reading.{In, number_at}
use Rattle.restoration.specs.declared.record.LoopRestorationParams.{LoopRestorationParams}
use Rattle.restoration_numbers.specs.Numbers.{lr_context}
use Rattle.restoration.specs.Restoration.{Kinds, Uses, lr_out, lr_in, lr_params}

unfoldable pub shifts_place : In (ℕ × ℕ)
shifts_place = number_at 12 natural ▸ number_at 13 natural

unfoldable pub uses_place : In Uses
uses_place = number_at 10 signed_bit ▸ number_at 11 signed_bit ▸ shifts_place

unfoldable pub planes_place : In (Kinds × Uses)
planes_place = (number_at 7 natural ▸ number_at 8 natural ▸ number_at 9 natural) ▸ uses_place

unfoldable pub lr_place : In LoopRestorationParams
lr_place = of lr_out lr_in planes_place

-- the table by the context that stands in the numbers
abbrev pub lr_by : List ℤ → Codec LoopRestorationParams
lr_by ns = lr_params (lr_context ns)
