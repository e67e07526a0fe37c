-- Over and back. What is written reads back as it was coded, and what is read is written again by the same bits.
use mathlib.Core.Path.{refl}
use Prim.Native.Nat.{ℕ}
use Rattle.bits.specs.Walk.{run}
use Rattle.bits.specs.Codec.{checked}
use Rattle.bits.specs.declared.answer.Refusal.TheVariants.{Inconsistent}
use Rattle.bits.proofs.Laws.{passes}
use Rattle.parts_reader.specs.Again.{Same, Rewrites}
use Rattle.parts_reader.specs.Refusals.{OnlyEnds}
use Rattle.parts_reader.specs.OverAndBack.{OverAndBack}
use Rattle.parts_reader.proofs.Refusing.{endings, field-ends}
use Rattle.parts_reader.proofs.Again.{same_pieces, agains, single-again, via-again, array_again}
use Rattle.parts_reader.proofs.RoundTrip.{over_and_back}
use Rattle.cdef.specs.declared.record.CdefContext.{CdefContext}
use Rattle.cdef.specs.Cdef.{damping_out, damping_in, damping, secondary, none, strength, strengths, each_strength, on_table, no_strength, no_place, no_strengths, off_table, cdef_on, cdef_off, cdef_params}
use Rattle.cdef.proofs.Laws.{damping_law, secondary_law, strengths-back, cdef_law}

-- no refusal but that of bits that run out
damping-ends : OnlyEnds damping
unfolding damping
damping-ends = field-ends 2 damping_out damping_in _

secondary-ends : (e i : ℕ) → OnlyEnds (secondary e i)
unfolding secondary
secondary-ends e i = search (endings, field-ends) depth 12

strengths-ends : (planes i : ℕ) → OnlyEnds (strengths planes i)
unfolding strengths strength
strengths-ends planes i = search (endings, secondary-ends) depth 12

cdef-ends : (context : CdefContext) → OnlyEnds (cdef_params context)
unfolding cdef_params cdef_on cdef_off on_table off_table each_strength no_strengths no_place no_strength
cdef-ends context = search (endings, damping-ends, strengths-ends) depth 12

-- the codes of a value and of a strength
damping_rewrites : Rewrites Same damping
unfolding damping
damping_rewrites = single-again same_pieces damping_law (λ v bs s. s) (λ v. refl)

secondary_rewrites : (e i : ℕ) → Rewrites Same (secondary e i)
unfolding secondary checked run
secondary_rewrites e i = single-again same_pieces (secondary_law e i) (λ v bs s. passes (Inconsistent e i) s.0 s.1) (λ v. refl)

strengths_rewrites : (planes i : ℕ) → Rewrites Same (strengths planes i)
unfolding strengths strength
strengths_rewrites planes i = search (agains, same_pieces, secondary_rewrites) depth 12

each_rewrites : (planes n : ℕ) → Rewrites Same (each_strength planes n)
unfolding each_strength
each_rewrites planes n = array_again same_pieces none (strengths planes) (strengths_rewrites planes) 8 0 n

on_rewrites : (planes : ℕ) → Rewrites Same (on_table planes)
unfolding on_table
on_rewrites planes = search (agains, same_pieces, damping_rewrites, each_rewrites) depth 12

no_place_rewrites : Rewrites Same no_place
unfolding no_place no_strength
no_place_rewrites = search (agains, same_pieces) depth 12

no_strengths_rewrites : Rewrites Same no_strengths
unfolding no_strengths
no_strengths_rewrites = array_again same_pieces none (λ _. no_place) (λ _. no_place_rewrites) 8 0 1

off_rewrites : Rewrites Same off_table
unfolding off_table
off_rewrites = search (agains, same_pieces, no_strengths_rewrites) depth 12

cdef_on_rewrites : (planes : ℕ) → Rewrites Same (cdef_on planes)
unfolding cdef_on
cdef_on_rewrites planes = via-again same_pieces _ _ (on_table planes) (λ a. λ i. (a.0, (a.1.0, strengths-back a.1.1 i))) (on_rewrites planes)

cdef_off_rewrites : Rewrites Same cdef_off
unfolding cdef_off
cdef_off_rewrites = via-again same_pieces _ _ off_table (λ a. λ i. (a.0, (strengths-back a.1.0 i, a.1.1))) off_rewrites

cdef_rewrites : (context : CdefContext) → Rewrites Same (cdef_params context)
unfolding cdef_params
cdef_rewrites context = search (agains, same_pieces, cdef_on_rewrites, cdef_off_rewrites) depth 12

pub cdef-over_and_back : (context : CdefContext) → OverAndBack Same (cdef_params context)
cdef-over_and_back context = over_and_back _ (cdef_law context) (cdef_rewrites context) (cdef-ends context)
