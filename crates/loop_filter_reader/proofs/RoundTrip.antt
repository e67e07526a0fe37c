-- Over and back. What is written reads back as it was coded. What is read is written again, if the old deltas are such as su(7) holds: by the same bits,
-- unless a delta's flag was clear, which is written set and with the old delta, in seven bits more.
use mathlib.Core.Path.{◌≡◌, refl}
use mathlib.Core.List.{List, ◌∷◌}
use mathlib.Core.Bool.{true}
use Prim.Native.Nat.{ℕ, suc, ◌*◌, ◌<◌, ◌^◌}
use native.Mathlib.Omega.{arith}
use borrow.Author.Tests.{lt-ltb, le-leb}
use lib.IntN.{ℤ, pos, negsuc}
use lib.Signed.{mag}
use lib.ListN.{get_or}
use Rattle.bits.specs.Bits.{to_bits}
use Rattle.bits.specs.Walk.{run, join}
use Rattle.bits.specs.Codec.{flag, choose, absent, ◌▷◌}
use Rattle.bits.specs.Codes.{su, su_out}
use Rattle.bits.specs.Elements.{loop_filter_ref_deltas}
use Rattle.bits.proofs.Numbers.{length-to_bits}
use Rattle.bits.proofs.Leaves.{field-run}
use Rattle.parts_reader.specs.Again.{Longer, Rewrites}
use Rattle.parts_reader.specs.Refusals.{OnlyEnds}
use Rattle.parts_reader.specs.Reading.{read_part}
use Rattle.parts_reader.specs.OverAndBack.{Over, OverAndBack}
use Rattle.parts_reader.proofs.Refusing.{endings}
use Rattle.parts_reader.proofs.Again.{longer_pieces, agains, via-again, array_again, inferred_signed-again}
use Rattle.parts_reader.proofs.DeltasAgain.{delta-again}
use Rattle.parts_reader.proofs.RoundTrip.{over, over_and_back}
use Rattle.std.specs.Prelude.{Ok}
use Rattle.parts.specs.Written.{Writes}
use Rattle.loop_filter.specs.declared.record.LoopFilterParams.{LoopFilterParams}
use Rattle.loop_filter.specs.declared.record.LoopFilterContext.{LoopFilterContext}
use Rattle.loop_filter.specs.LoopFilter.{chroma_levels, levels, delta, Deltas, ref_deltas, mode_deltas, deltas, delta_update, rest, filter_on, default_deltas, default_refs, default_modes, no_levels, no_rest, filter_off, loop_filter_table, loop_filter_out, loop_filter_in, loop_filter_params, no_old}
use Rattle.loop_filter.proofs.Laws.{loop_filter_law, old_unwritten}

-- no refusal but that of bits that run out
delta-ends : (old : ℤ) (e i : ℕ) → OnlyEnds (delta old e i)
unfolding delta
delta-ends old e i = search endings depth 12

levels-ends : (planes : ℕ) → OnlyEnds (levels planes)
unfolding levels chroma_levels
levels-ends planes = search endings depth 12

rest-ends : (old : Deltas) → OnlyEnds (rest old)
unfolding rest delta_update deltas ref_deltas mode_deltas
rest-ends old = search (endings, delta-ends) depth 12

off_ends : OnlyEnds filter_off
unfolding filter_off no_levels no_rest default_refs default_modes
off_ends = search endings depth 12

loop_filter-ends : (context : LoopFilterContext) (old : Deltas) → OnlyEnds (loop_filter_params context old)
unfolding loop_filter_params loop_filter_table filter_on
loop_filter-ends context old = search (endings, levels-ends, rest-ends, off_ends) depth 12

-- old deltas that su(7) holds: -64 to 63
pub record Small (old : Deltas) : Type 0 where
  pub refs : (i : ℕ) → mag (get_or old.0 i (pos 0)) < 64
  pub first : mag old.1.0 < 64
  pub second : mag old.1.1 < 64

su_small : (z : ℤ) → mag z < 64 → su_out 7 z < 2 ^ 7
su_small (pos m) h = rw (lt-ltb (m * 2) 128 (omega arith)) (omega arith)
su_small (negsuc m) h = rw (le-leb (suc m * 2) 128 (omega arith)) (omega arith)

delta_rewrites : (old : ℤ) (e i : ℕ) → mag old < 64 → Rewrites Longer (delta old e i)
unfolding delta run join ◌▷◌ flag choose absent su
delta_rewrites old e i h = delta-again longer_pieces (λ z. (true, z)) old e i (
  true ∷ to_bits 7 (su_out 7 old),
  rw (field-run 7 (su_out 7 old) _ (su_small old h)) refl,
  (omega arith, λ k. absurd (omega (arith, length-to_bits 7 (su_out 7 old)))),
)
    (λ z bs k. (true ∷ bs, rw k refl, longer_pieces.same (true ∷ bs)))

levels_rewrites : (planes : ℕ) → Rewrites Longer (levels planes)
unfolding levels chroma_levels
levels_rewrites planes = search (agains, longer_pieces) depth 12

deltas_rewrites : (old : Deltas) → Small old → Rewrites Longer (deltas old)
unfolding deltas ref_deltas mode_deltas
deltas_rewrites old h =
    let refs = array_again longer_pieces (pos 0) _ (λ i. delta_rewrites (get_or old.0 i (pos 0)) loop_filter_ref_deltas i (h.refs i)) 8 0 8 in
    search (agains, longer_pieces, refs, delta_rewrites) depth 12

rest_rewrites : (old : Deltas) → Small old → Rewrites Longer (rest old)
unfolding rest delta_update
rest_rewrites old h = search (agains, longer_pieces, deltas_rewrites) depth 12

refs_rewrites : Rewrites Longer default_refs
unfolding default_refs
refs_rewrites = array_again longer_pieces (pos 0) _ (λ i. inferred_signed-again longer_pieces loop_filter_ref_deltas (get_or default_deltas i (pos 0))) 8 0 8

off_rewrites : Rewrites Longer filter_off
unfolding filter_off no_levels no_rest default_modes
off_rewrites = search (agains, longer_pieces, refs_rewrites) depth 12

table_rewrites : (context : LoopFilterContext) (old : Deltas) → Small old → Rewrites Longer (loop_filter_table context old)
unfolding loop_filter_table filter_on
table_rewrites context old h = search (agains, longer_pieces, levels_rewrites, rest_rewrites, off_rewrites) depth 12

loop_filter_rewrites : (context : LoopFilterContext) (old : Deltas) → Small old → Rewrites Longer (loop_filter_params context old)
unfolding loop_filter_params
loop_filter_rewrites context old h = via-again longer_pieces loop_filter_out loop_filter_in (loop_filter_table context old) (λ a. refl) (table_rewrites context old h)

-- with any old deltas
pub loop_filter-over : (context : LoopFilterContext) (old : Deltas) → Over (loop_filter_params context old)
loop_filter-over context old = over _ (loop_filter_law context old) (loop_filter-ends context old)

-- in the words of the writer, which is lent none
pub loop_filter_reads_back : (context : LoopFilterContext) (old : Deltas) (p : LoopFilterParams) (place : ℕ) (xs ys : List ℕ) (n : ℕ) → Writes ((loop_filter_params context no_old).enc p) place xs (Ok n) ys
    → read_part (loop_filter_params context old) place ys ≡ Ok ((loop_filter_params context old).coded p, n)
loop_filter_reads_back context old p place xs ys n g = (loop_filter-over context old).reads_back p place xs ys n (rw (old_unwritten context p old no_old) g)

-- with old deltas that su(7) holds
pub loop_filter-over_and_back : (context : LoopFilterContext) (old : Deltas) → Small old → OverAndBack Longer (loop_filter_params context old)
loop_filter-over_and_back context old h = over_and_back _ (loop_filter_law context old) (loop_filter_rewrites context old h) (loop_filter-ends context old)
