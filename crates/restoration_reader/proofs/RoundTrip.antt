-- Over and back. What is written reads back as it was coded, and what is read is written again by the same bits.
use mathlib.Core.Path.{◌≡◌, refl, ap}
use mathlib.Core.Bool.{Bool, true, false}
use Prim.Native.Nat.{ℕ, ◌+◌, ◌-◌}
use native.Mathlib.Omega.{arith}
use borrow.Author.Tests.{lt-ltb}
use Rattle.bits.specs.Walk.{run}
use Rattle.bits.specs.Codec.{Codec, field_as, flag, choose, absent, checked, ◌▷◌}
use Rattle.bits.specs.Elements.{lr_unit_shift}
use Rattle.bits.specs.declared.answer.Refusal.TheVariants.{Inconsistent, Unfit}
use Rattle.bits.proofs.Laws.{passes}
use Rattle.parts_reader.specs.Again.{Same, Rewrites}
use Rattle.parts_reader.specs.Refusals.{OnlyEnds}
use Rattle.parts_reader.specs.OverAndBack.{OverAndBack}
use Rattle.parts_reader.proofs.Refusing.{endings, field-ends}
use Rattle.parts_reader.proofs.Again.{same_pieces, agains, single-again, merged_exact, via-again}
use Rattle.parts_reader.proofs.RoundTrip.{over_and_back}
use Rattle.restoration.specs.declared.record.LoopRestorationContext.{LoopRestorationContext}
use Rattle.restoration.specs.Restoration.{large_shift, small_out, small_in, small_shift, unit_shift, uv_shift, shifts, uses, kinds, three_planes, one_kind, one_plane, no_kinds, no_planes, lr_table, lr_out, lr_in, lr_params}
use Rattle.restoration.proofs.Laws.{large_law, bit_law, lr_law}

-- no refusal but that of bits that run out
large_ends : OnlyEnds large_shift
unfolding large_shift
large_ends = search (endings, field-ends) depth 12

bit-ends : OnlyEnds (field_as 1 (λ v. v) (λ v. v) (λ _. Unfit lr_unit_shift 0 0))
bit-ends = field-ends 1 (λ v. v) (λ v. v) _

shifts-ends : (context : LoopRestorationContext) (chroma : Bool) → OnlyEnds (shifts context chroma)
unfolding shifts unit_shift small_shift uv_shift
shifts-ends context chroma = search (endings, large_ends, bit-ends) depth 12

uses-ends : (context : LoopRestorationContext) (restored chroma : Bool) → OnlyEnds (uses context restored chroma)
unfolding uses
uses-ends context restored chroma = search (endings, shifts-ends) depth 12

lr-ends : (context : LoopRestorationContext) → OnlyEnds (lr_params context)
unfolding lr_params lr_table three_planes one_plane no_planes kinds one_kind no_kinds
lr-ends context = search (endings, uses-ends) depth 12

-- the shift of the units
large_rewrites : Rewrites Same large_shift
unfolding large_shift checked run
large_rewrites = single-again same_pieces large_law (λ v bs s. passes (Inconsistent lr_unit_shift 0) s.0 s.1) (λ v. refl)

bit_rewrites : Rewrites Same (field_as 1 (λ v. v) (λ v. v) (λ _. Unfit lr_unit_shift 0 0))
bit_rewrites = single-again same_pieces bit_law (λ v bs s. s) (λ v. refl)

abbrev more_and_bit : Codec (Bool × ℕ)
more_and_bit = flag ▷ λ more. choose more (field_as 1 (λ v. v) (λ v. v) (λ _. Unfit lr_unit_shift 0 0)) (absent 0)

more_rewrites : Rewrites Same more_and_bit
more_rewrites = search (agains, same_pieces, bit_rewrites) depth 12

small_back : (p : Bool × ℕ) → more_and_bit.coded p ≡ p → small_out (small_in p) ≡ p
unfolding ◌▷◌ flag choose absent
small_back (true, v) e = let n : v + 1 - 1 ≡ v = omega arith in rw (lt-ltb 0 (v + 1) (omega arith), n) refl
small_back (false, v) e = let n : 0 ≡ v = ap (λ (p : Bool × ℕ). p.1) e in λ i. (false, n i)

small_rewrites : Rewrites Same small_shift
unfolding small_shift
small_rewrites = merged_exact same_pieces small_out small_in more_and_bit small_back more_rewrites

shifts_rewrites : (context : LoopRestorationContext) (chroma : Bool) → Rewrites Same (shifts context chroma)
unfolding shifts unit_shift uv_shift
shifts_rewrites context chroma = search (agains, same_pieces, large_rewrites, small_rewrites) depth 12

uses_rewrites : (context : LoopRestorationContext) (restored chroma : Bool) → Rewrites Same (uses context restored chroma)
unfolding uses
uses_rewrites context restored chroma = search (agains, same_pieces, shifts_rewrites) depth 12

table_rewrites : (context : LoopRestorationContext) → Rewrites Same (lr_table context)
unfolding lr_table three_planes one_plane no_planes kinds one_kind no_kinds
table_rewrites context = search (agains, same_pieces, uses_rewrites) depth 12

lr_rewrites : (context : LoopRestorationContext) → Rewrites Same (lr_params context)
unfolding lr_params
lr_rewrites context = via-again same_pieces lr_out lr_in (lr_table context) (λ a. refl) (table_rewrites context)

pub lr-over_and_back : (context : LoopRestorationContext) → OverAndBack Same (lr_params context)
lr-over_and_back context = over_and_back _ (lr_law context) (lr_rewrites context) (lr-ends context)
