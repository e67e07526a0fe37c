-- The table of 5.9.11 keeps the laws, whatever the old deltas; what is written does not go by them.
use mathlib.Core.Path.{◌≡◌, refl}
use mathlib.Core.List.{List}
use mathlib.Core.Bool.{Bool, true, false, cond}
use Prim.Native.Nat.{ℕ}
use lib.ListN.{get_or}
use lib.IntN.{ℤ, pos}
use Rattle.bits.specs.Codec.{flag, choose, merged, absent, via, array, ◌▷◌}
use Rattle.bits.specs.Codes.{su}
use Rattle.bits.specs.Elements.{loop_filter_ref_deltas}
use Rattle.bits.specs.Lawful.{loose, Lawful}
use Rattle.bits.proofs.Laws.{via_law, merged_law}
use Rattle.bits.proofs.Leaves.{codec_laws, array_law}
use Rattle.bits.proofs.CodeLaws.{su_law}
use Rattle.loop_filter.specs.LoopFilter.{chroma_levels, levels, delta, Deltas, ref_deltas, mode_deltas, deltas, delta_update, rest, filter_on, default_deltas, default_refs, default_modes, no_levels, no_rest, filter_off, loop_filter_table, loop_filter_out, loop_filter_in, loop_filter_params}
use Rattle.loop_filter.specs.declared.record.LoopFilterContext.{LoopFilterContext}
use Rattle.loop_filter.specs.declared.record.LoopFilterParams.{LoopFilterParams}
use Rattle.parts.proofs.Laws.{inferred_signed_law}

delta-coded : (b : Bool) (z old : ℤ) → cond b (cond b z (pos 0)) old ≡ cond b z old
delta-coded true z old = refl
delta-coded false z old = refl

delta_law : (old : ℤ) (e i : ℕ) → Lawful loose (delta old e i)
unfolding delta ◌▷◌ flag choose su absent
delta_law old e i = merged_law _ _ (search (codec_laws, su_law) depth 12) (λ z. refl) (λ p. delta-coded p.0 p.1 old) (λ w. absurd w)

chroma_law : (coded : Bool) → Lawful loose (chroma_levels coded)
unfolding chroma_levels
chroma_law coded = search codec_laws depth 12

levels_law : (planes : ℕ) → Lawful loose (levels planes)
unfolding levels
levels_law planes = search (codec_laws, chroma_law) depth 12

refs_law : (old : List ℤ) → Lawful loose (ref_deltas old)
unfolding ref_deltas
refs_law old = array_law (pos 0) _ (λ i. delta_law (get_or old i (pos 0)) loop_filter_ref_deltas i) 8 0 8

modes_law : (old : ℤ × ℤ) → Lawful loose (mode_deltas old)
unfolding mode_deltas
modes_law old = search (codec_laws, delta_law) depth 12

deltas_law : (old : Deltas) → Lawful loose (deltas old)
unfolding deltas
deltas_law old = search (codec_laws, refs_law, modes_law) depth 12

update_law : (old : Deltas) → Lawful loose (delta_update old)
unfolding delta_update
update_law old = search (codec_laws, deltas_law) depth 12

rest_law : (old : Deltas) → Lawful loose (rest old)
unfolding rest
rest_law old = search (codec_laws, update_law) depth 12

default_refs_law : Lawful loose default_refs
unfolding default_refs
default_refs_law = array_law (pos 0) _ (λ i. inferred_signed_law loop_filter_ref_deltas (get_or default_deltas i (pos 0))) 8 0 8

default_modes_law : Lawful loose default_modes
unfolding default_modes
default_modes_law = search (codec_laws, inferred_signed_law) depth 12

no_levels_law : Lawful loose no_levels
unfolding no_levels
no_levels_law = search codec_laws depth 12

no_rest_law : Lawful loose no_rest
unfolding no_rest
no_rest_law = search (codec_laws, default_refs_law, default_modes_law) depth 12

table_law : (context : LoopFilterContext) (old : Deltas) → Lawful loose (loop_filter_table context old)
unfolding loop_filter_table filter_on filter_off
table_law context old = search (codec_laws, levels_law, rest_law, no_levels_law, no_rest_law) depth 12

pub loop_filter_law : (context : LoopFilterContext) (old : Deltas) → Lawful loose (loop_filter_params context old)
unfolding loop_filter_params
loop_filter_law context old = via_law loop_filter_out loop_filter_in (table_law context old) (λ a. refl)

pub old_unwritten : (context : LoopFilterContext) (p : LoopFilterParams) (old new : Deltas) → (loop_filter_params context old).enc p ≡ (loop_filter_params context new).enc p
unfolding loop_filter_params loop_filter_table filter_on rest delta_update deltas ref_deltas mode_deltas delta merged via array choose absent ◌▷◌
old_unwritten context p old new = refl
