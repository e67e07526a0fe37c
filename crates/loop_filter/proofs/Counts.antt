-- The most bits of the loop filter's parameters.
use mathlib.Core.Path.{refl}
use lib.Dec.{lit≤}
use Rattle.bits.specs.Walk.{bound}
use Rattle.bits.specs.Codec.{◌▷◌, choose, merged, via, array, f, flag, absent, inferred}
use Rattle.bits.specs.Codes.{su}
use Rattle.parts.specs.Codes.{inferred_signed}
use Rattle.loop_filter.specs.LoopFilter.{chroma_levels, levels, delta, ref_deltas, mode_deltas, deltas, delta_update, rest, filter_on, default_refs, default_modes, no_levels, no_rest, filter_off, loop_filter_table, loop_filter_params, no_old}
use Rattle.loop_filter.specs.declared.record.LoopFilterParams.{LoopFilterParams}
use Rattle.loop_filter.specs.declared.record.LoopFilterContext.{LoopFilterContext}
use Rattle.bits.proofs.Counting.{unshort, Within}

pub within : (context : LoopFilterContext) (p : LoopFilterParams) → Within 109 ((loop_filter_params context no_old).enc p)
unfolding bound unshort chroma_levels levels delta ref_deltas mode_deltas deltas delta_update rest filter_on default_refs default_modes no_levels no_rest filter_off loop_filter_table loop_filter_params inferred_signed su ◌▷◌ choose merged via array f flag absent inferred
within context p = record { most = lit≤ tt; own = refl }
