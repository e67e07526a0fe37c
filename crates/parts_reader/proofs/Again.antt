-- What is read is written again, of each form that the tables are made of, and so of a table.
use mathlib.Core.Path.{◌≡◌, refl, sym, ap, subst, ◌∙◌}
use mathlib.Core.List.{[], ◌∷◌, ◌++◌}
use mathlib.Core.Bool.{Bool, true, false}
use Prim.Native.Nat.{ℕ, zero, suc}
use native.Mathlib.Omega.{arith}
use lib.Dec.{ltb}
use lib.IntN.{ℤ}
use lib.ListN.{length-append}
use Rattle.bits.specs.Bits.{Bits}
use Rattle.bits.specs.Walk.{wrote, run}
use Rattle.bits.specs.Codec.{Codec, got, and_then, f, flag, absent, inferred, inferred_flag, choose, select, checked, merged, via, array, uncons, ◌▷◌}
use Rattle.bits.specs.Codes.{su}
use Rattle.bits.specs.Lawful.{loose, Lawful}
use Rattle.bits.proofs.Laws.{then_inv, got-value, got-rest, joined, glue, passes}
use Rattle.bits.proofs.Leaves.{f_law, flag_law, inferred_law, inferred_flag_law}
use Rattle.bits.proofs.CodeLaws.{su_law}
use Rattle.parts.specs.Codes.{inferred_signed}
use Rattle.parts.proofs.Laws.{inferred_signed_law}
use Rattle.parts_reader.specs.Again.{Same, Shorter, Longer, Again, Rewrites, rewrites}

-- The relation holds of the same bits, and piece by piece.
pub record Pieces (R : Bits → Bits → Type 0) : Type 0 where
  pub same : (bs : Bits) → R bs bs
  pub both : {a b c d : Bits} → R a b → R c d → R (a ++ c) (b ++ d)

pub same_pieces : Pieces Same
same_pieces = record { same = λ bs. refl; both = λ p q i. p i ++ q i }

pub shorter_pieces : Pieces Shorter
shorter_pieces = record {
  same = λ bs. (omega arith, λ e. refl);
  both = λ {a} {b} {c} {d} p q. (
    omega (arith, p.0, q.0, length-append a c, length-append b d),
    λ e.
        let l = p.1 (omega (arith, p.0, q.0, length-append a c, length-append b d)) in
        let r = q.1 (omega (arith, p.0, q.0, length-append a c, length-append b d)) in
        λ i. l i ++ r i,
  );
}

pub longer_pieces : Pieces Longer
longer_pieces = record {
  same = λ bs. (omega arith, λ e. refl);
  both = λ {a} {b} {c} {d} p q. (
    omega (arith, p.0, q.0, length-append a c, length-append b d),
    λ e.
        let l = p.1 (omega (arith, p.0, q.0, length-append a c, length-append b d)) in
        let r = q.1 (omega (arith, p.0, q.0, length-append a c, length-append b d)) in
        λ i. l i ++ r i,
  );
}

of : {A : Type 0} {R : Bits → Bits → Type 0} {c : Codec A} → Rewrites R c → (bs : Bits) (a : A) (rest : Bits) → c.dec bs ≡ got a rest → Again R c bs a rest
of (rewrites h) = h

module _ {R : Bits → Bits → Type 0} (P : Pieces R) where
  -- a table whose one spelling of a value is the one that is written
  pub single-again : {A : Type 0} {c : Codec A} → Lawful loose c → ((a : A) (bs : Bits) → c.spells a bs → run (c.enc a) ≡ wrote bs) → ((a : A) → c.coded a ≡ a) → Rewrites R c
  single-again C one all = rewrites (λ bs a rest h. let s = C.sound bs a rest h in record { front = s.0; again = s.0; taken = s.2; writes = one a s.0 s.1; alike = P.same s.0; all = all a })

  pub f-again : (n e i : ℕ) → Rewrites R (f n e i)
  unfolding f
  f-again n e i = single-again (f_law n e i) (λ a bs s. s) (λ a. refl)

  pub su-again : (n e i : ℕ) → Rewrites R (su n e i)
  unfolding su
  su-again n e i = single-again (su_law n e i) (λ a bs s. s) (λ a. refl)

  pub flag-again : Rewrites R flag
  unfolding flag
  flag-again = single-again flag_law (λ a bs s. s) (λ a. refl)

  pub inferred-again : (e i x : ℕ) → Rewrites R (inferred e i x)
  unfolding inferred
  inferred-again e i x = single-again (inferred_law e i x) (λ a bs s. s) (λ a. refl)

  pub inferred_flag-again : (e i : ℕ) (x : Bool) → Rewrites R (inferred_flag e i x)
  unfolding inferred_flag
  inferred_flag-again e i x = single-again (inferred_flag_law e i x) (λ a bs s. s) (λ a. refl)

  pub inferred_signed-again : (e : ℕ) (x : ℤ) → Rewrites R (inferred_signed e x)
  unfolding inferred_signed
  inferred_signed-again e x = single-again (inferred_signed_law e x) (λ a bs s. s) (λ a. refl)

  pub absent-again : {A : Type 0} (z : A) → Rewrites R (absent z)
  unfolding absent run
  absent-again z = rewrites (λ bs a rest h. record { front = []; again = []; taken = sym (got-rest h); writes = refl; alike = P.same []; all = got-value h })

  -- a part, and then another
  module _ {A B : Type 0} {c : Codec A} {k : A → Codec B} where
    pub seq_again : Rewrites R c → ((a : A) → Rewrites R (k a)) → Rewrites R (c ▷ k)
    unfolding ◌▷◌ run
    seq_again C K = rewrites go
      where
        pair : {a : A} {b : B} {bs mid rest : Bits} → Again R c bs a mid → Again R (k a) mid b rest → Again R (c ▷ k) bs (a, b) rest
        pair {a} {b} x y = record {
          front = x.front ++ y.front;
          again = x.again ++ y.again;
          taken = glue x.front y.front x.taken y.taken refl;
          writes = joined x.writes (ap (λ (q : A). run ((k q).enc b)) x.all ∙ y.writes);
          alike = P.both x.alike y.alike;
          all = let e = ap (λ (q : A). (k q).coded b) x.all ∙ y.all in λ i. (x.all i, e i);
        }

        go : (bs : Bits) (p : A × B) (rest : Bits) → and_then (c.dec bs) (λ a rest. and_then ((k a).dec rest) (λ b end. got (a, b) end)) ≡ got p rest → Again R (c ▷ k) bs p rest
        go bs p rest h =
            let u = then_inv (c.dec bs) (λ a rest. and_then ((k a).dec rest) (λ b end. got (a, b) end)) p rest h in
            let w = then_inv ((k u.0).dec u.1) (λ b end. got (u.0, b) end) p rest u.3 in
            let g = pair (of C bs u.0 u.1 u.2) (of (K u.0) u.1 w.0 w.1 w.2) in
            subst (λ (q : A × B). Again R (c ▷ k) bs q rest) (got-value w.3) (subst (λ (x : Bits). Again R (c ▷ k) bs (u.0, w.0) x) (got-rest w.3) g)

  -- one of two forms
  module _ {A : Type 0} {c d : Codec A} where
    pub choose-again : (t : Bool) → Rewrites R c → Rewrites R d → Rewrites R (choose t c d)
    unfolding choose run
    choose-again true C D = rewrites (λ bs a rest h. let x = of C bs a rest h in record { front = x.front; again = x.again; taken = x.taken; writes = x.writes; alike = x.alike; all = x.all })
    choose-again false C D = rewrites (λ bs a rest h. let x = of D bs a rest h in record { front = x.front; again = x.again; taken = x.taken; writes = x.writes; alike = x.alike; all = x.all })

    pub select-again : (t : Bool) → Rewrites R c → Rewrites R d → Rewrites R (select t c d)
    unfolding select run
    select-again true C D = rewrites (λ bs a rest h. let x = of C bs a rest h in record { front = x.front; again = x.again; taken = x.taken; writes = x.writes; alike = x.alike; all = refl })
    select-again false C D = rewrites (λ bs a rest h. let x = of D bs a rest h in record { front = x.front; again = x.again; taken = x.taken; writes = x.writes; alike = x.alike; all = refl })

  -- a check that what is read meets
  pub checked-again : {A : Type 0} {c : Codec A} (test : A → Bool) → (r : _) → ((bs : Bits) (a : A) (rest : Bits) → c.dec bs ≡ got a rest → test a ≡ true) → Rewrites R c → Rewrites R (checked test r c)
  unfolding checked run
  checked-again test r meets C = rewrites (λ bs a rest h. let x = of C bs a rest h in record { front = x.front; again = x.again; taken = x.taken; writes = passes r (meets bs a rest h) x.writes; alike = x.alike; all = x.all })

  -- a value of another type; and one that several values of the table stand for
  module _ {A B : Type 0} (to : B → A) (in-again : A → B) (c : Codec A) where
    pub via-again : ((a : A) → to (in-again a) ≡ a) → Rewrites R c → Rewrites R (via to in-again c)
    unfolding via
    via-again back C = rewrites (λ bs b rest h.
        let u = then_inv (c.dec bs) (λ a rest. got (in-again a) rest) b rest h in
        let x = of C bs u.0 u.1 u.2 in
        let e : to b ≡ u.0 = ap to (sym (got-value u.3)) ∙ back u.0 in
        record {
          front = x.front;
          again = x.again;
          taken = ap (λ (q : Bits). x.front ++ q) (sym (got-rest u.3)) ∙ x.taken;
          writes = ap (λ (a : A). run (c.enc a)) e ∙ x.writes;
          alike = x.alike;
          all = ap (λ (a : A). in-again (c.coded a)) e ∙ ap in-again x.all ∙ got-value u.3;
        })

    pub merged-again : ((bs : Bits) (a : A) (rest : Bits) → c.dec bs ≡ got a rest → Again R (merged to in-again c) bs (in-again a) rest) → Rewrites R (merged to in-again c)
    unfolding merged
    merged-again each = rewrites (λ bs b rest h.
        let u = then_inv (c.dec bs) (λ a rest. got (in-again a) rest) b rest h in
        subst (λ (q : B). Again R (merged to in-again c) bs q rest) (got-value u.3) (subst (λ (x : Bits). Again R (merged to in-again c) bs (in-again u.0) x) (got-rest u.3) (each bs u.0 u.1 u.2)))

    pub merged_exact : ((a : A) → c.coded a ≡ a → to (in-again a) ≡ a) → Rewrites R c → Rewrites R (merged to in-again c)
    unfolding merged
    merged_exact back C = merged-again (λ bs a rest h.
        let x = of C bs a rest h in
        record { front = x.front; again = x.again; taken = x.taken; writes = ap (λ (b : A). run (c.enc b)) (back a x.all) ∙ x.writes; alike = x.alike; all = refl })

  pub array_again : {A : Type 0} (z : A) (item : ℕ → Codec A) → ((i : ℕ) → Rewrites R (item i)) → (m i n : ℕ) → Rewrites R (array z item m i n)
  unfolding array
  array_again z item I zero i n = absent-again []
  array_again z item I (suc m) i n = via-again (uncons z) (λ p. p.0 ∷ p.1) _ (λ a. refl) (seq_again (choose-again (ltb i n) (I i) (absent-again z)) λ _. array_again z item I m (suc i) n)

pub ruleset agains = (f-again, su-again, flag-again, inferred-again, inferred_flag-again, inferred_signed-again, absent-again, seq_again, choose-again, select-again)
