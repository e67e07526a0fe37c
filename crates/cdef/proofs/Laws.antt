-- The table of 5.9.19 keeps the laws.
use mathlib.Core.Path.{◌≡◌, refl, sym}
use mathlib.Core.List.{List}
use mathlib.Core.Bool.{Bool, true, false, cond, not}
use Prim.Native.Nat.{ℕ, ◌+◌, ◌-◌, ◌<◌}
use native.Mathlib.Omega.{arith}
use lib.Dec.{eqb, ltb}
use borrow.Author.Tests.{le-ltb, ltb-false, eqb-true}
use Rattle.bits.specs.Lawful.{loose, Lawful}
use Rattle.bits.specs.declared.answer.Refusal.TheVariants.{Inconsistent, Unfit}
use Rattle.bits.proofs.Laws.{via_law, checked_law}
use Rattle.bits.proofs.Leaves.{codec_laws, field_fits, field_as_law, array_law}
use Rattle.parts.specs.Codes.{zip, firsts, seconds}
use Rattle.cdef.specs.Cdef.{damping_out, damping_in, damping, swapped, secondary, Strengths, none, strength, strengths, each_strength, on_table, no_strength, no_place, no_strengths, off_table, cdef_on, cdef_off, cdef_params}
use Rattle.cdef.specs.declared.record.CdefContext.{CdefContext}
use Rattle.parts.proofs.Pairs.{zip-back}
use Rattle.bits.specs.Elements.{cdef_damping}

damping-back : (v : ℕ) → damping_out (damping_in v) ≡ v
damping-back v = rw (le-ltb (v + 3) 3 (omega arith)) (omega arith)

damping_there : (v : ℕ) → damping_out v < 4 → damping_in (damping_out v) ≡ v
damping_there v h = go (ltb v 3) refl h
  where
    go : (b : Bool) → ltb v 3 ≡ b → cond b 4 (v - 3) < 4 → cond b 4 (v - 3) + 3 ≡ v
    go true e h = absurd (omega arith)
    go false e h = omega (arith, ltb-false v 3 e)

pub damping_law : Lawful loose damping
unfolding damping
damping_law = field_as_law 2 damping_out damping_in (λ _. Unfit cdef_damping 0 0) (λ v h. damping-back v) damping_there

swapped-back : (v : ℕ) → swapped (swapped v) ≡ v
swapped-back v = go (eqb v 4) refl (eqb v 3) refl
  where
    go : (a : Bool) → eqb v 4 ≡ a → (b : Bool) → eqb v 3 ≡ b → swapped (cond a 3 (cond b 4 v)) ≡ v
    go true e b q = sym (eqb-true v 4 e)
    go false e true q = sym (eqb-true v 3 q)
    go false e false q = rw (e, q)

-- what two bits hold is not 3
not_three : (v : ℕ) → swapped v < 4 → not (eqb v 3) ≡ true
not_three v h = go (eqb v 3) refl
  where
    go : (b : Bool) → eqb v 3 ≡ b → not b ≡ true
    go true e = let q : v ≡ 3 = eqb-true v 3 e in let l : swapped 3 < 4 = rw q at h in absurd (omega arith)
    go false e = refl

pub secondary_law : (e i : ℕ) → Lawful loose (secondary e i)
unfolding secondary
secondary_law e i = checked_law (λ v. not (eqb v 3)) (Inconsistent e i)
    (field_as_law 2 swapped swapped (λ _. Unfit e i 0) (λ v h. swapped-back v) (λ v h. swapped-back v))
    (λ v bs s. not_three v (field_fits 2 (swapped v) _ bs s))
    (λ v. refl)

strength_law : (p s i : ℕ) → Lawful loose (strength p s i)
unfolding strength
strength_law p s i = search (codec_laws, secondary_law) depth 12

strengths_law : (planes i : ℕ) → Lawful loose (strengths planes i)
unfolding strengths
strengths_law planes i = search (codec_laws, strength_law) depth 12

each_law : (planes n : ℕ) → Lawful loose (each_strength planes n)
unfolding each_strength
each_law planes n = array_law none (strengths planes) (strengths_law planes) 8 0 n

on_law : (planes : ℕ) → Lawful loose (on_table planes)
unfolding on_table
on_law planes = search (codec_laws, damping_law, each_law) depth 12

no_strength_law : (p s : ℕ) → Lawful loose (no_strength p s)
unfolding no_strength
no_strength_law p s = search codec_laws depth 12

no_place_law : Lawful loose no_place
unfolding no_place
no_place_law = search (codec_laws, no_strength_law) depth 12

no_strengths_law : Lawful loose no_strengths
unfolding no_strengths
no_strengths_law = array_law none (λ _. no_place) (λ _. no_place_law) 8 0 1

off_law : Lawful loose off_table
unfolding off_table
off_law = search (codec_laws, no_strengths_law) depth 12

pub strengths-back : (ss : List Strengths) → zip (0, 0) (0, 0) (zip 0 0 (firsts (firsts ss)) (seconds (firsts ss))) (zip 0 0 (firsts (seconds ss)) (seconds (seconds ss))) ≡ ss
strengths-back ss = rw (zip-back 0 0 (firsts ss), zip-back 0 0 (seconds ss)) (zip-back (0, 0) (0, 0) ss)

cdef_on_law : (planes : ℕ) → Lawful loose (cdef_on planes)
unfolding cdef_on
cdef_on_law planes = via_law _ _ (on_law planes) (λ a. λ i. (a.0, (a.1.0, strengths-back a.1.1 i)))

cdef_off_law : Lawful loose cdef_off
unfolding cdef_off
cdef_off_law = via_law _ _ off_law (λ a. λ i. (a.0, (strengths-back a.1.0 i, a.1.1)))

pub cdef_law : (context : CdefContext) → Lawful loose (cdef_params context)
unfolding cdef_params
cdef_law context = search (codec_laws, cdef_on_law, cdef_off_law) depth 12
