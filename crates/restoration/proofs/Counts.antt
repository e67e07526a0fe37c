-- The most bits of the restoration parameters.
use mathlib.Core.Path.{refl}
use lib.Dec.{lit≤}
use Rattle.bits.specs.Walk.{bound}
use Rattle.bits.specs.Codec.{◌▷◌, choose, checked, merged, via, f, flag, absent, inferred, inferred_flag}
use Rattle.restoration.specs.Restoration.{large_shift, small_shift, unit_shift, uv_shift, shifts, uses, kinds, three_planes, one_kind, one_plane, no_kinds, no_planes, lr_table, lr_params}
use Rattle.restoration.specs.declared.record.LoopRestorationParams.{LoopRestorationParams}
use Rattle.restoration.specs.declared.record.LoopRestorationContext.{LoopRestorationContext}
use Rattle.bits.proofs.Counting.{unshort, Within}

pub within : (context : LoopRestorationContext) (p : LoopRestorationParams) → Within 9 ((lr_params context).enc p)
unfolding bound unshort large_shift small_shift unit_shift uv_shift shifts uses kinds three_planes one_kind one_plane no_kinds no_planes lr_table lr_params ◌▷◌ choose checked merged via f flag absent inferred inferred_flag
within context p = record { most = lit≤ tt; own = refl }
