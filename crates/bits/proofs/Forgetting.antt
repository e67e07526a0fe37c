-- The width in a refusal is one value more, and nothing goes by it: what a walk comes to is, the width forgotten, what it comes to without widths.
use mathlib.Core.Path.{◌≡◌, refl, ap, ◌∙◌}
use mathlib.Core.List.{[]}
use mathlib.Core.Bool.{cond}
use Prim.Native.Nat.{◌^◌}
use lib.Dec.{ltb}
use Rattle.std.specs.Prelude.{Ok, Err}
use Rattle.bits.specs.Bits.{Bits, to_bits}
use Rattle.bits.specs.Walk.{Walk, none, field, mark, demand, refuse, either, ◌⊕◌, End, done, refused, Out, wrote, refuses, after, join, run}
use Rattle.bits.specs.Written.{Answer, Written}
use Rattle.bits.specs.declared.answer.Refusal.{Refusal}
use Rattle.bits.specs.declared.answer.Refusal.TheVariants.{Inconsistent, Unfit, Short, Ends, Reserved, Size, Trailing, Long}
use Rattle.bits.proofs.Laws.{cond-ap}

abbrev pub forget : Refusal → Refusal
forget (Inconsistent e i) = Inconsistent e i
forget (Unfit e i w) = Unfit e i 0
forget (Short n) = Short n
forget Ends = Ends
forget Reserved = Reserved
forget Size = Size
forget Trailing = Trailing
forget Long = Long

abbrev pub forget_end : End → End
forget_end done = done
forget_end (refused r) = refused (forget r)

abbrev pub forget_answer : Answer → Answer
forget_answer (Ok n) = Ok n
forget_answer (Err r) = Err (forget r)

abbrev pub forget_written : Written → Written
forget_written v = record { answer = forget_answer v.answer; bytes = v.bytes }

abbrev forget_out : Out → Out
forget_out o = record { bits = o.bits; end = forget_end o.end }

-- the walk whose refusals say no width
unfoldable pub without_widths : Walk → Walk
without_widths none = none
without_widths (field n v r) = field n v (forget r)
without_widths (mark b) = mark b
without_widths (demand t r) = demand t (forget r)
without_widths (refuse r) = refuse (forget r)
without_widths (either t a b) = either t (without_widths a) (without_widths b)
without_widths (a ⊕ b) = without_widths a ⊕ without_widths b

joined : (e : End) (bs : Bits) (p : Out) → after (forget_end e) bs (forget_out p) ≡ forget_out (after e bs p)
joined done bs p = refl
joined (refused r) bs p = refl

runs : (w : Walk) → run (without_widths w) ≡ forget_out (run w)
unfolding without_widths run join
runs none = refl
runs (field n v r) = cond-ap forget_out (ltb v (2 ^ n)) (wrote (to_bits n v)) (refuses r)
runs (mark b) = refl
runs (demand t r) = cond-ap forget_out t (wrote []) (refuses r)
runs (refuse r) = refl
runs (either t a b) = (λ i. cond t (runs a i) (runs b i)) ∙ cond-ap forget_out t (run a) (run b)
runs (a ⊕ b) = (λ i. join (runs a i) (runs b i)) ∙ joined (run a).end (run a).bits (run b)

-- the same bits, and the same end
pub forgetting_bits : (w : Walk) → (run (without_widths w)).bits ≡ (run w).bits
forgetting_bits w = ap (λ (o : Out). o.bits) (runs w)

pub forgetting_end : (w : Walk) → (run (without_widths w)).end ≡ forget_end (run w).end
forgetting_end w = ap (λ (o : Out). o.end) (runs w)
