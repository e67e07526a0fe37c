-- A walk ends at the first of its checks that does not hold.
use mathlib.Core.Path.{◌≡◌, refl, sym, ◌∙◌}
use mathlib.Core.Bool.{Bool, true, false, cond}
use mathlib.Core.List.{List, [], ◌∷◌, ◌++◌}
use Prim.Native.Nat.{◌^◌}
use lib.Dec.{ltb}
use Rattle.bits.specs.Bits.{Bits, to_bits}
use Rattle.bits.specs.Walk.{Walk, none, field, mark, demand, refuse, either, ◌⊕◌, End, done, refused, Out, wrote, refuses, after, join, run}
use Rattle.bits.specs.Checks.{Check, checks, first_broken}
use Rattle.bits.specs.declared.answer.Refusal.{Refusal}

-- one list of checks and then another
abbrev then_end : End → End → End
then_end done k = k
then_end (refused r) k = refused r

both : (cs ds : List Check) → first_broken (cs ++ ds) ≡ then_end (first_broken cs) (first_broken ds)
unfolding first_broken
both [] ds = refl
both ((true, r) ∷ cs) ds = both cs ds
both ((false, r) ∷ cs) ds = refl

joined : (e : End) (bs : Bits) (p : Out) → (after e bs p).end ≡ then_end e p.end
joined done bs p = refl
joined (refused r) bs p = refl

one : (t : Bool) (bs : Bits) (r : Refusal) → (cond t (wrote bs) (refuses r)).end ≡ first_broken ((t, r) ∷ [])
unfolding first_broken
one true bs r = refl
one false bs r = refl

chosen : (t : Bool) (o p : Out) (cs ds : List Check) → o.end ≡ first_broken cs → p.end ≡ first_broken ds → (cond t o p).end ≡ first_broken (cond t cs ds)
chosen true o p cs ds h k = h
chosen false o p cs ds h k = k

pub ends-at-first_broken : (w : Walk) → (run w).end ≡ first_broken (checks w)
unfolding run join checks first_broken
ends-at-first_broken none = refl
ends-at-first_broken (field n v r) = one (ltb v (2 ^ n)) (to_bits n v) r
ends-at-first_broken (mark b) = refl
ends-at-first_broken (demand t r) = one t [] r
ends-at-first_broken (refuse r) = refl
ends-at-first_broken (either t a b) = chosen t (run a) (run b) (checks a) (checks b) (ends-at-first_broken a) (ends-at-first_broken b)
ends-at-first_broken (a ⊕ b) =
    joined (run a).end (run a).bits (run b)
    ∙ (λ i. then_end (ends-at-first_broken a i) (ends-at-first_broken b i))
    ∙ sym (both (checks a) (checks b))
