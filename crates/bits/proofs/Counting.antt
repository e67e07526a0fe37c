-- How many bits a walk writes: as many as it counts, where it comes to its end; and that a walk which names no refusal 3 never ends with one.
use mathlib.Core.Path.{◌≡◌, refl, sym, ap, ◌∙◌}
use mathlib.Core.List.{List, []}
use mathlib.Core.Logic.{◌⊎◌, inl, inr, ⊎_elim}
use mathlib.Core.Bool.{Bool, true, false, cond, not, ◌&&◌}
use Prim.Native.Nat.{ℕ, zero, suc, ◌+◌, ◌^◌, ◌≤◌}
use native.Mathlib.Omega.{arith}
use lib.Dec.{eqb, ltb}
use lib.ListN.{length, length-append}
use Rattle.bits.specs.Bits.{Bits, to_bits}
use Rattle.bits.specs.Walk.{Walk, none, field, mark, demand, refuse, either, ◌⊕◌, End, done, refused, Out, wrote, refuses, after, join, run, bound, count}
use Rattle.bits.specs.Answers.{numbered}
use Rattle.bits.specs.Codec.{Codec, ◌▷◌, choose, via, absent, array, uncons}
use Rattle.bits.specs.declared.answer.Refusal.{Refusal}
use Rattle.bits.specs.declared.answer.Refusal.TheVariants.{Short}
use Rattle.bits.proofs.Numbers.{length-to_bits}
use Rattle.bits.proofs.Laws.{refused-done, join_inv}
use Rattle.bits.proofs.Lengths.{bounded}

field-count : (t : Bool) (n v : ℕ) (r : Refusal) → (cond t (wrote (to_bits n v)) (refuses r)).end ≡ done → length (cond t (wrote (to_bits n v)) (refuses r)).bits ≡ n
field-count true n v r e = length-to_bits n v
field-count false n v r e = absurd (refused-done e)

demand-count : (t : Bool) (r : Refusal) → length (cond t (wrote []) (refuses r)).bits ≡ 0
demand-count true r = refl
demand-count false r = refl

-- both of two walks came to their end, and wrote one behind the other
both : (e : End) (bs : Bits) (p : Out) → (after e bs p).end ≡ done → (e ≡ done) × (p.end ≡ done) × (length (after e bs p).bits ≡ length bs + length p.bits)
both done bs p h = (refl, h, length-append bs p.bits)
both (refused r) bs p h = absurd (refused-done h)

pub counted : (w : Walk) → (run w).end ≡ done → length (run w).bits ≡ count w
unfolding run join count
counted none e = refl
counted (field n v r) e = field-count (ltb v (2 ^ n)) n v r e
counted (mark b) e = refl
counted (demand t r) e = demand-count t r
counted (refuse r) e = refl
counted (either true a b) e = counted a e
counted (either false a b) e = counted b e
counted (a ⊕ b) e = let h = both (run a).end (run a).bits (run b) e in omega (arith, h.2, counted a h.0, counted b h.1)

-- a walk that comes to its end with n bits
pub record Takes (n : ℕ) (w : Walk) : Type 0 where
  pub ends : (run w).end ≡ done
  pub bits : length (run w).bits ≡ n

pub takes : {n : ℕ} {w : Walk} → (run w).end ≡ done → count w ≡ n → Takes n w
takes {w = w} e c = record { ends = e; bits = counted w e ∙ c }

-- A walk that, where it comes to its end, has at most n bits
pub record Few (n : ℕ) (w : Walk) : Type 0 where
  pub most : (bs : Bits) → run w ≡ wrote bs → length bs ≤ n

pub few_by : {n : ℕ} {w : Walk} → bound w ≤ n → Few n w
few_by {n} {w} h = record { most = λ bs e. omega (arith, bounded w, ap (λ (o : Out). length o.bits) e) }

pub few_then : {n m : ℕ} {v w : Walk} → Few n v → Few m w → Few (n + m) (v ⊕ w)
unfolding run
few_then {v = v} {w = w} F G = record {
  most = λ bs e. let j = join_inv (run v) (run w) bs e in
      omega (arith, F.most j.0 j.2, G.most j.1 j.3, ap length (sym j.4) ∙ length-append j.0 j.1);
}

-- by the flag, where the table knows it; else the larger of both
pub few_known : {n m : ℕ} (t : Bool) {v w : Walk} → Few n v → Few m w → Few (cond t n m) (either t v w)
unfolding run
few_known true F G = record { most = F.most }
few_known false F G = record { most = G.most }

pub few-either : {n : ℕ} (t : Bool) {v w : Walk} → Few n v → Few n w → Few n (either t v w)
unfolding run
few-either true F G = record { most = F.most }
few-either false F G = record { most = G.most }

-- an array whose item i has at most k i bits
abbrev pub total : (ℕ → ℕ) → ℕ → ℕ → ℕ
total k zero i = 0
total k (suc m) i = k i + total k m (suc i)

pub array-few : {A : Type 0} (z : A) (item : ℕ → Codec A) (k : ℕ → ℕ) → ((i : ℕ) (a : A) → Few (k i) ((item i).enc a)) → (m i n : ℕ) (vs : List A) → Few (total k m i) ((array z item m i n).enc vs)
unfolding array via ◌▷◌ choose absent bound
array-few z item k F zero i n vs = few_by (omega arith)
array-few z item k F (suc m) i n vs = few_then (few-either (ltb i n) (F i (uncons z vs).0) (few_by (omega arith))) (array-few z item k F m (suc i) n (uncons z vs).1)

-- No refusal of a walk is 3, a buffer that is too short.
abbrev not_short : Refusal → Bool
not_short r = not (eqb (numbered r).number 3)

unfoldable pub unshort : Walk → Bool
unshort none = true
unshort (field n v r) = not_short r
unshort (mark b) = true
unshort (demand t r) = not_short r
unshort (refuse r) = not_short r
unshort (either t a b) = unshort a && unshort b
unshort (a ⊕ b) = unshort a && unshort b

false-true : false ≡ true → ⊥
false-true h = let z : ◌≡◌ {A = ℕ} 0 1 = cc in omega arith

done_refused : {r : Refusal} → done ≡ refused r → ⊥
done_refused h = refused-done (sym h)

and_both : (a b : Bool) → (a && b) ≡ true → (a ≡ true) × (b ≡ true)
and_both true b h = (refl, h)
and_both false b h = absurd (false-true h)

same_refusal : {q r : Refusal} → refused q ≡ refused r → not_short q ≡ true → not_short r ≡ true
same_refusal {q} {r} h u = let e : q ≡ r = cc in ap not_short (sym e) ∙ u

one_ends : (t : Bool) (bs : Bits) (q : Refusal) {r : Refusal} → (cond t (wrote bs) (refuses q)).end ≡ refused r → not_short q ≡ true → not_short r ≡ true
one_ends true bs q e u = absurd (done_refused e)
one_ends false bs q e u = same_refusal e u

-- one of two walks refused
one_of : (e : End) (bs : Bits) (p : Out) {r : Refusal} → (after e bs p).end ≡ refused r → (e ≡ refused r) ⊎ (p.end ≡ refused r)
one_of done bs p h = inr h
one_of (refused q) bs p h = inl h

pub unshort-ends : (w : Walk) {r : Refusal} → unshort w ≡ true → (run w).end ≡ refused r → not_short r ≡ true
unfolding run join unshort
unshort-ends none u e = absurd (done_refused e)
unshort-ends (field n v q) u e = one_ends (ltb v (2 ^ n)) (to_bits n v) q e u
unshort-ends (mark b) u e = absurd (done_refused e)
unshort-ends (demand t q) u e = one_ends t [] q e u
unshort-ends (refuse q) u e = same_refusal e u
unshort-ends (either true a b) u e = unshort-ends a (and_both (unshort a) (unshort b) u).0 e
unshort-ends (either false a b) u e = unshort-ends b (and_both (unshort a) (unshort b) u).1 e
unshort-ends (a ⊕ b) u e =
    let h = and_both (unshort a) (unshort b) u in
    ⊎_elim (λ p. unshort-ends a h.0 p) (λ p. unshort-ends b h.1 p) (one_of (run a).end (run a).bits (run b) e)

pub never_short : (w : Walk) {n : ℕ} → unshort w ≡ true → (run w).end ≡ refused (Short n) → ⊥
never_short w u e = false-true (unshort-ends w u e)

-- a walk whose bound is at most n, and that names no refusal 3
pub record Within (n : ℕ) (w : Walk) : Type 0 where
  pub most : bound w ≤ n
  pub own : unshort w ≡ true
