-- Where each parameter of the loop filter stands in the record's numbers, behind the context's; and the deltas that a frame goes by.
use Rattle.std.specs.Prelude.{Bool, false, List, ℕ, ◌+◌, ℤ, pos}
use Rattle.bits.specs.Codec.{Codec}
use Rattle.fill.specs.Fills.{same, natural, signed_bit, of, each, ◌▸◌}
use Rattle.loop_filter.specs.LoopFilter.{Levels, Deltas, Rest, default_deltas, loop_filter_out, loop_filter_in, loop_filter_params}
use Rattle.loop_filter.specs.declared.record.LoopFilterParams.{LoopFilterParams}
use Rattle.loop_filter_numbers.specs.Numbers.{loop_filter_context}
use Rattle.numbers.specs.Numbers as numbers
use Rattle.numbers.specs.Numbers.{signed_at}
use Rattle.parts_reader.specs.Reading.{In, number_at}

-- ten numbers as deltas: those of the eight references, and of the two modes
abbrev pub old_deltas : List ℤ → Deltas
old_deltas xs = (numbers.each 8 (λ i. signed_at xs i), (signed_at xs 8, signed_at xs 9))

unfoldable pub chroma_place : In (ℕ × ℕ)
chroma_place = number_at 5 natural ▸ number_at 6 natural

unfoldable pub levels_place : In Levels
levels_place = number_at 3 natural ▸ number_at 4 natural ▸ chroma_place

abbrev pub ref_place : ℕ → In ℤ
ref_place i = number_at (10 + i) same

unfoldable pub refs_place : In (List ℤ)
refs_place = each (pos 0) ref_place 8 0 8

unfoldable pub modes_place : In (ℤ × ℤ)
modes_place = number_at 18 same ▸ number_at 19 same

unfoldable pub deltas_place : In Deltas
deltas_place = refs_place ▸ modes_place

unfoldable pub update_place : In (Bool × Deltas)
update_place = number_at 9 signed_bit ▸ deltas_place

unfoldable pub rest_place : In Rest
rest_place = number_at 7 natural ▸ number_at 8 signed_bit ▸ update_place

unfoldable pub loop_filter_place : In LoopFilterParams
loop_filter_place = of loop_filter_out loop_filter_in (levels_place ▸ rest_place)

-- what is stored where the filter is off
abbrev pub off : Levels × Rest
off = ((0, (0, (0, 0))), (0, (false, (false, (default_deltas, (pos 0, pos 0))))))

-- the table by the context that stands in the numbers, and by the deltas before
abbrev pub loop_filter_by : List ℤ → List ℤ → Codec LoopFilterParams
loop_filter_by previous ns = loop_filter_params (loop_filter_context ns) (old_deltas previous)
