-- The table of 5.9.20 keeps the laws.
use mathlib.Core.Path.{◌≡◌, refl, ap}
use mathlib.Core.Bool.{Bool, true, false, cond, not}
use Prim.Native.Nat.{ℕ, ◌+◌, ◌-◌, ◌<◌}
use native.Mathlib.Omega.{arith}
use lib.Dec.{eqb, ltb}
use borrow.Author.Tests.{ltb-true, ltb-false, eqb-true, eqb-false, ne_eqb}
use Rattle.bits.specs.Codec.{field_as, flag, choose, absent, ◌▷◌}
use Rattle.bits.specs.Elements.{lr_unit_shift}
use Rattle.bits.specs.Lawful.{loose, Lawful}
use Rattle.bits.specs.declared.answer.Refusal.TheVariants.{Inconsistent, Unfit}
use Rattle.bits.proofs.Laws.{via_law, merged_law, checked_law}
use Rattle.bits.proofs.Leaves.{codec_laws, field_fits, field_as_law}
use Rattle.restoration.specs.Restoration.{large_out, large_in, large_shift, small_out, small_in, small_shift, unit_shift, uv_shift, shifts, uses, kinds, three_planes, one_kind, one_plane, no_kinds, no_planes, lr_table, lr_out, lr_in, lr_params}
use Rattle.restoration.specs.declared.record.LoopRestorationContext.{LoopRestorationContext}

large_back : (v : ℕ) → large_out (large_in v) ≡ v
large_back v = rw (ne_eqb (v + 1) 0 (λ e. omega arith)) (omega arith)

-- what one bit holds is not 0
not-zero : (v : ℕ) → large_out v < 2 → eqb v 0 ≡ false
not-zero v h = go (eqb v 0) refl
  where
    go : (b : Bool) → eqb v 0 ≡ b → b ≡ false
    go true e = let q : v ≡ 0 = eqb-true v 0 e in let l : large_out 0 < 2 = rw q at h in absurd (omega arith)
    go false e = refl

large_there : (v : ℕ) → large_out v < 2 → large_in (large_out v) ≡ v
large_there v h = rw (not-zero v h) (omega (arith, eqb-false v 0 (not-zero v h)))

pub large_law : Lawful loose large_shift
unfolding large_shift
large_law = checked_law (λ v. not (eqb v 0)) (Inconsistent lr_unit_shift 0)
    (field_as_law 1 large_out large_in (λ _. Unfit lr_unit_shift 0 0) (λ v h. large_back v) large_there)
    (λ v bs s. ap not (not-zero v (field_fits 1 (large_out v) _ bs s)))
    (λ v. refl)

small_back : (v : ℕ) → small_in (small_out v) ≡ v
small_back v = go (ltb 0 v) refl
  where
    go : (b : Bool) → ltb 0 v ≡ b → cond b (v - 1 + 1) 0 ≡ v
    go true e = omega (arith, ltb-true 0 v e)
    go false e = omega (arith, ltb-false 0 v e)

small_coded : (b : Bool) (x : ℕ) → cond b (cond b x 0 + 1) 0 ≡ cond b (x + 1) 0
small_coded true x = refl
small_coded false x = refl

pub bit_law : Lawful loose (field_as 1 (λ v. v) (λ v. v) (λ _. Unfit lr_unit_shift 0 0))
bit_law = field_as_law 1 (λ v. v) (λ v. v) (λ _. Unfit lr_unit_shift 0 0) (λ v h. refl) (λ v h. refl)

small_law : Lawful loose small_shift
unfolding small_shift ◌▷◌ flag choose absent
small_law = merged_law small_out small_in (search (codec_laws, bit_law) depth 12) small_back (λ p. small_coded p.0 p.1) (λ w. absurd w)

unit_law : (large : Bool) → Lawful loose (unit_shift large)
unfolding unit_shift
unit_law large = search (codec_laws, large_law, small_law) depth 12

uv_law : (coded : Bool) → Lawful loose (uv_shift coded)
unfolding uv_shift
uv_law coded = search codec_laws depth 12

shifts_law : (context : LoopRestorationContext) (chroma : Bool) → Lawful loose (shifts context chroma)
unfolding shifts
shifts_law context chroma = search (codec_laws, unit_law, uv_law) depth 12

uses_law : (context : LoopRestorationContext) (restored chroma : Bool) → Lawful loose (uses context restored chroma)
unfolding uses
uses_law context restored chroma = search (codec_laws, shifts_law) depth 12

kinds_law : Lawful loose kinds
unfolding kinds
kinds_law = search codec_laws depth 12

one_kind_law : Lawful loose one_kind
unfolding one_kind
one_kind_law = search codec_laws depth 12

no_kinds_law : Lawful loose no_kinds
unfolding no_kinds
no_kinds_law = search codec_laws depth 12

planes_law : (context : LoopRestorationContext) → Lawful loose (lr_table context)
unfolding lr_table three_planes one_plane no_planes
planes_law context = search (codec_laws, kinds_law, one_kind_law, no_kinds_law, uses_law) depth 12

pub lr_law : (context : LoopRestorationContext) → Lawful loose (lr_params context)
unfolding lr_params
lr_law context = via_law lr_out lr_in (planes_law context) (λ a. refl)
