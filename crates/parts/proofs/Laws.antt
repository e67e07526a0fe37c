-- What the parts' tables share keeps the laws of a table.
use mathlib.Core.Path.{◌≡◌, sym, ap, ◌∙◌}
use mathlib.Core.List.{[], ◌++◌}
use mathlib.Core.Bool.{cond}
use Prim.Native.Nat.{ℕ}
use lib.IntN.{ℤ}
use Rattle.bits.specs.Bits.{Bits}
use Rattle.bits.specs.Walk.{wrote, refuses, run}
use Rattle.bits.specs.Codec.{Codec, got}
use Rattle.bits.specs.Lawful.{Grade, loose, Lawful}
use Rattle.bits.specs.declared.answer.Refusal.TheVariants.{Inconsistent}
use Rattle.bits.proofs.Laws.{cond_inv, refused-wrote, wrote-bits, got-value, got-rest, then_inv}
use Rattle.bits.proofs.Leaves.{single_law}
use Rattle.parts.specs.Codes.{same, inferred_signed, trimmed}
use Rattle.parts.proofs.Signs.{same_is, same_self}

-- a signed number that must be x
inferred_reads : (z x : ℤ) (bs rest : Bits) → z ≡ x → wrote [] ≡ wrote bs → got x (bs ++ rest) ≡ got z rest
inferred_reads z x bs rest h k = rw (h, ← (wrote-bits k))

inferred_writes : (e : ℕ) (z x : ℤ) → x ≡ z → cond (same z x) (wrote []) (refuses (Inconsistent e 0)) ≡ wrote []
inferred_writes e z x h = rw (h, same_self z)

pub inferred_signed_law : {g : Grade} (e : ℕ) (x : ℤ) → Lawful g (inferred_signed e x)
unfolding inferred_signed run
inferred_signed_law e x = single_law _ _
    (λ z bs rest h. let t = cond_inv (same z x) h refused-wrote in inferred_reads z x bs rest (same_is z x t.0) t.1)
    (λ bs z rest h. ([], inferred_writes e z x (got-value h), sym (got-rest h)))

-- a value that is clipped: the clipping of what is clipped changes nothing, and all of the value is coded
module _ {A : Type 0} (trim : A → A) {c : Codec A} where
  pub trimmed_law : Lawful loose c → ((a : A) → c.coded a ≡ a) → ((a : A) → trim (trim a) ≡ trim a) → Lawful loose (trimmed trim c)
  unfolding trimmed
  trimmed_law C whole twice = record {
    own = λ a bs h. (trim a, twice a, C.own (trim a) bs h);
    complete = λ a bs rest s. rw (C.complete s.0 bs rest s.2) (ap (λ (x : A). got x rest) (ap trim (whole s.0) ∙ s.1));
    sound = λ bs a rest h.
        let u = then_inv (c.dec bs) (λ a rest. got (trim a) rest) a rest h in
        let x = C.sound bs u.0 u.1 u.2 in
        (x.0, (u.0, sym (twice u.0) ∙ ap trim (got-value u.3), x.1), ap (λ (t : Bits). x.0 ++ t) (sym (got-rest u.3)) ∙ x.2);
    idem = twice;
    blind = λ a. ap (λ (x : A). run (c.enc x)) (twice a);
    least = λ w. absurd w;
  }
