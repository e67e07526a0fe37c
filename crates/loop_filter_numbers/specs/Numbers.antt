-- The record's numbers, in the order of the case lines: the context first.
use Rattle.std.specs.Prelude.{List, [], ◌∷◌, ◌+◌, ℤ}
use Rattle.bits.specs.Walk.{Walk}
use Rattle.loop_filter.specs.LoopFilter as loop_filter
use Rattle.loop_filter.specs.declared.record.LoopFilterParams.{LoopFilterParams}
use Rattle.loop_filter.specs.declared.record.LoopFilterContext.{LoopFilterContext}
use Rattle.numbers.specs.Numbers.{signed_at, set_at, natural_at, each}

abbrev pub loop_filter_context : List ℤ → LoopFilterContext
loop_filter_context xs = record { coded_lossless = set_at xs 0; allow_intrabc = set_at xs 1; planes = natural_at xs 2 }

abbrev pub loop_filter_params : List ℤ → LoopFilterParams
loop_filter_params xs = record {
  loop_filter_level = natural_at xs 3 ∷ natural_at xs 4 ∷ natural_at xs 5 ∷ natural_at xs 6 ∷ [];
  loop_filter_sharpness = natural_at xs 7;
  loop_filter_delta_enabled = set_at xs 8;
  loop_filter_delta_update = set_at xs 9;
  loop_filter_ref_deltas = each 8 (λ i. signed_at xs (10 + i));
  loop_filter_mode_deltas = signed_at xs 18 ∷ signed_at xs 19 ∷ [];
}

-- what the numbers have written
abbrev pub loop_filter_walk : List ℤ → Walk
loop_filter_walk xs = (loop_filter.loop_filter_params (loop_filter_context xs) loop_filter.no_old).enc (loop_filter_params xs)
