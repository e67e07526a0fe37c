-- Each form that a table is made of keeps the laws.
use mathlib.Core.Path.{◌≡◌, refl, sym, ◌∙◌, ap, subst}
use mathlib.Core.List.{[], ◌++◌, append_assoc, append-nil}
use mathlib.Core.Bool.{Bool, true, false, cond}
use Prim.Native.Nat.{ℕ}
use native.Mathlib.Omega.{arith}
use lib.ListN.{length, length-append}
use Rattle.bits.specs.Bits.{Bits}
use Rattle.bits.specs.Walk.{Out, End, done, refused, wrote, refuses, after, join, run}
use Rattle.bits.specs.Codec.{Codec, Got, got, stop, and_then, ◌▷◌, choose, select, via, allowed, within, checked, merged}
use Rattle.bits.specs.Lawful.{Least, same, shorter, Grade, Wants, Lawful}
use Rattle.bits.specs.declared.answer.Refusal.{Refusal}

-- Two constructors are never equal.
pub stop-got : {A : Type 0} {r : Refusal} {a : A} {rest : Bits} → stop r ≡ got a rest → ⊥
stop-got h = let z : ◌≡◌ {A = ℕ} 0 1 = cc in omega arith

pub refused-wrote : {r : Refusal} {x bs : Bits} → ◌≡◌ {A = Out} (record { bits = x; end = refused r }) (wrote bs) → ⊥
refused-wrote h = let k = ap (λ (o : Out). o.end) h in let z : ◌≡◌ {A = ℕ} 0 1 = cc in omega arith

pub wrote-bits : {x y : Bits} → wrote x ≡ wrote y → x ≡ y
wrote-bits h = ap (λ (o : Out). o.bits) h

pub refused-done : {r : Refusal} → refused r ≡ done → ⊥
refused-done h = let z : ◌≡◌ {A = ℕ} 0 1 = cc in omega arith

-- What two walks wrote.
pub join_inv : (o p : Out) (bs : Bits) → join o p ≡ wrote bs → (x : Bits) × (y : Bits) × (o ≡ wrote x) × (p ≡ wrote y) × (x ++ y ≡ bs)
unfolding join
join_inv o p bs h = go o.end o.bits refl refl h
  where
    go : (e : End) (x : Bits) → o.end ≡ e → o.bits ≡ x → after e x p ≡ wrote bs → (x : Bits) × (y : Bits) × (o ≡ wrote x) × (p ≡ wrote y) × (x ++ y ≡ bs)
    go done x he hx h = (x, p.bits, (λ i. record { bits = hx i; end = he i }), (λ i. record { bits = p.bits; end = (h i).end }), ap (λ (o : Out). o.bits) h)
    go (refused r) x he hx h = absurd (refused-wrote h)

pub joined : {o p : Out} {x y : Bits} → o ≡ wrote x → p ≡ wrote y → join o p ≡ wrote (x ++ y)
unfolding join
joined {o} {p} h k = rw (h, k)

pub then_inv : {A B : Type 0} (g : Got A) (k : A → Bits → Got B) (b : B) (end : Bits) → and_then g k ≡ got b end → (a : A) × (rest : Bits) × (g ≡ got a rest) × (k a rest ≡ got b end)
then_inv (got a rest) k b end h = (a, rest, refl, h)
then_inv (stop r) k b end h = absurd (stop-got h)

pub got-value : {A : Type 0} {a b : A} {x y : Bits} → got a x ≡ got b y → a ≡ b
got-value h = cc

pub got-rest : {A : Type 0} {a b : A} {x y : Bits} → got a x ≡ got b y → x ≡ y
got-rest h = cc

-- Behind one another: the spellings' lengths add up.
pub least-join : {x y ex ey : Bits} → Least ex x → Least ey y → Least (ex ++ ey) (x ++ y)
least-join (same p) (same q) = same (cc)
least-join {x} {y} {ex} {ey} (same p) (shorter q) = shorter (simp length-append (omega (arith, ap length p)))
least-join {x} {y} {ex} {ey} (shorter p) (same q) = shorter (simp length-append (omega (arith, ap length q)))
least-join (shorter p) (shorter q) = shorter (simp length-append (omega arith))

pub glue : (x y : Bits) {r s rest bs : Bits} → x ++ r ≡ bs → y ++ s ≡ r → s ≡ rest → x ++ y ++ rest ≡ bs
glue x y {rest = rest} h k e = append_assoc x y rest ∙ ap (λ (t : Bits). x ++ t) (ap (λ (t : Bits). y ++ t) (sym e) ∙ k) ∙ h

-- What is read is all coded.
pub coded_fix : {A : Type 0} {g : Grade} {c : Codec A} → Lawful g c → {bs : Bits} {a : A} {rest : Bits} → c.dec bs ≡ got a rest → c.coded a ≡ a
coded_fix {c = c} C {bs} {a} {rest} h =
    let s = C.sound bs a rest h in
    let r = rw s.2 at (C.complete a s.0 rest s.1) in
    got-value (sym r ∙ h)

-- A spelling of a value is one of what it codes.
pub spells-coded : {A : Type 0} {g : Grade} {c : Codec A} → Lawful g c → (a : A) (bs : Bits) → c.spells a bs → c.spells (c.coded a) bs
spells-coded {c = c} C a bs s =
    let x = C.sound (bs ++ []) (c.coded a) [] (C.complete a bs [] s) in
    subst (λ (q : Bits). c.spells (c.coded a) q) (sym (append-nil x.0) ∙ x.2 ∙ append-nil bs) x.1

module _ {A B : Type 0} {g : Grade} {c : Codec A} {k : A → Codec B} where
  pub seq_law : Lawful g c → ((a : A) → Lawful g (k a)) → Lawful g (c ▷ k)
  unfolding ◌▷◌ run
  seq_law C K = record {
    own = λ p bs h. let j = join_inv (run (c.enc p.0)) (run ((k (c.coded p.0)).enc p.1)) bs h in
        (j.0, j.1, C.own p.0 j.0 j.2, (K (c.coded p.0)).own p.1 j.1 j.3, j.4);
    complete = λ p bs rest s.
        rw (← s.4, append_assoc, C.complete p.0 s.0 (s.1 ++ rest) s.2, (K (c.coded p.0)).complete p.1 s.1 rest s.3);
    sound = λ bs p rest h.
        let u = then_inv (c.dec bs) (λ a rest. and_then ((k a).dec rest) (λ b end. got (a, b) end)) p rest h in
        let w = then_inv ((k u.0).dec u.1) (λ b end. got (u.0, b) end) p rest u.3 in
        let x = C.sound bs u.0 u.1 u.2 in
        let y = (K u.0).sound u.1 w.0 w.1 w.2 in
        let g : (front : Bits) × ((c ▷ k).spells (u.0, w.0) front) × (front ++ rest ≡ bs) = (
          x.0 ++ y.0,
          (x.0, y.0, x.1, rw (coded_fix C u.2) y.1, refl),
          glue x.0 y.0 x.2 y.2 (got-rest w.3),
        ) in
        subst (λ (q : A × B). (front : Bits) × ((c ▷ k).spells q front) × (front ++ rest ≡ bs)) (got-value w.3) g;
    idem = λ p. rw (C.idem p.0, (K (c.coded p.0)).idem p.1);
    blind = λ p. rw (C.idem p.0, C.blind p.0, (K (c.coded p.0)).blind p.1);
    least = λ w p bs s.
        let x = C.least w p.0 s.0 s.2 in
        let y = (K (c.coded p.0)).least w p.1 s.1 s.3 in
        (x.0 ++ y.0, joined x.1 y.1, rw s.4 at (least-join x.2 y.2));
  }

module _ {A : Type 0} {g : Grade} {c d : Codec A} where
  pub choose_law : (t : Bool) → Lawful g c → Lawful g d → Lawful g (choose t c d)
  unfolding choose run
  choose_law true C D = record { own = C.own; complete = C.complete; sound = C.sound; idem = C.idem; blind = C.blind; least = C.least }
  choose_law false C D = record { own = D.own; complete = D.complete; sound = D.sound; idem = D.idem; blind = D.blind; least = D.least }

  pub select_law : (t : Bool) → Lawful g c → Lawful g d → ((a : A) → c.coded a ≡ a) → ((a : A) → d.coded a ≡ a) → Lawful g (select t c d)
  unfolding select run
  select_law true C D p q = record { own = C.own; complete = λ a bs rest s. C.complete a bs rest s ∙ ap (λ (x : A). got x rest) (p a); sound = C.sound; idem = λ a. refl; blind = λ a. refl; least = C.least }
  select_law false C D p q = record { own = D.own; complete = λ a bs rest s. D.complete a bs rest s ∙ ap (λ (x : A). got x rest) (q a); sound = D.sound; idem = λ a. refl; blind = λ a. refl; least = D.least }

module _ {A B : Type 0} (to : B → A) (from : A → B) {g : Grade} {c : Codec A} where
  pub via_spelled : Lawful g c → ((a : A) (bs : Bits) → c.spells a bs → to (from a) ≡ a) → ((b : B) → to (from (c.coded (to b))) ≡ c.coded (to b)) → Lawful g (via to from c)
  unfolding via
  via_spelled C back there = record {
    own = λ b bs h. C.own (to b) bs h;
    complete = λ b bs rest s. rw (C.complete (to b) bs rest s);
    sound = λ bs b rest h.
        let u = then_inv (c.dec bs) (λ a rest. got (from a) rest) b rest h in
        let x = C.sound bs u.0 u.1 u.2 in
        let g : (front : Bits) × ((via to from c).spells (from u.0) front) × (front ++ rest ≡ bs) =
        (x.0, subst (λ (q : A). c.spells q x.0) (sym (back u.0 x.0 x.1)) x.1, ap (λ (t : Bits). x.0 ++ t) (sym (got-rest u.3)) ∙ x.2) in
        subst (λ (q : B). (front : Bits) × ((via to from c).spells q front) × (front ++ rest ≡ bs)) (got-value u.3) g;
    idem = λ b. ap from (ap c.coded (there b) ∙ C.idem (to b));
    blind = λ b. ap (λ (a : A). run (c.enc a)) (there b) ∙ C.blind (to b);
    least = λ w b bs s. C.least w (to b) bs s;
  }

module _ {A B : Type 0} (to : B → A) (from : A → B) {g : Grade} {c : Codec A} where
  -- a struct for its table: `refl` shows the last argument
  pub via_law : Lawful g c → ((a : A) → to (from a) ≡ a) → Lawful g (via to from c)
  via_law C back = via_spelled to from C (λ a bs s. back a) (λ b. back (c.coded (to b)))

pub join-none : {o : Out} {x : Bits} → o ≡ wrote x → join o (wrote []) ≡ wrote x
unfolding join
join-none {o} {x} h = rw h (ap wrote (append-nil x))

-- what a function makes of a cond is the cond of what it makes
pub cond-ap : {A B : Type 0} (h : A → B) (t : Bool) (a b : A) → cond t (h a) (h b) ≡ h (cond t a b)
cond-ap h true a b = refl
cond-ap h false a b = refl

-- a cond that came out as a value, or not as its other side
pub cond_inv : {A : Type 0} (t : Bool) {a b r : A} → cond t a b ≡ r → ((b ≡ r) → ⊥) → (t ≡ true) × (a ≡ r)
cond_inv true h n = (refl, h)
cond_inv false h n = absurd (n h)

-- a demand that was met, and what came after it
pub passed : (t : Bool) (r : Refusal) {o : Out} {bs : Bits} → join (cond t (wrote []) (refuses r)) o ≡ wrote bs → (t ≡ true) × (o ≡ wrote bs)
unfolding join
passed true r h = (refl, h)
passed false r h = absurd (refused-wrote h)

pub passes : {t : Bool} (r : Refusal) {o : Out} {bs : Bits} → t ≡ true → o ≡ wrote bs → join (cond t (wrote []) (refuses r)) o ≡ wrote bs
unfolding join
passes r h k = rw h k

-- a value that is tested once it is read
tested_sound : {A : Type 0} (test : A → Bool) (r : Refusal) {g : Grade} {c : Codec A} → Lawful g c → (bs : Bits) (a : A) (rest : Bits)
    → and_then (c.dec bs) (λ a rest. cond (test a) (got a rest) (stop r)) ≡ got a rest → (front : Bits) × ((test (c.coded a) ≡ true) × c.spells a front) × (front ++ rest ≡ bs)
tested_sound test r {c = c} C bs a rest h =
    let u = then_inv (c.dec bs) (λ a rest. cond (test a) (got a rest) (stop r)) a rest h in
    let t = cond_inv (test u.0) u.3 stop-got in
    let d : c.dec bs ≡ got a rest = u.2 ∙ t.1 in
    let x = C.sound bs a rest d in
    (x.0, (ap test (coded_fix C d ∙ sym (got-value t.1)) ∙ t.0, x.1), x.2)

module _ {A : Type 0} (test : A → Bool) (r : Refusal) {g : Grade} {c : Codec A} where
  pub allowed_law : Lawful g c → Lawful g (allowed test r c)
  unfolding allowed run
  allowed_law C = record {
    own = λ a bs h.
        let g = passed (test (c.coded a)) r h in
        (g.0, C.own a bs g.1);
    complete = λ a bs rest s. rw (C.complete a bs rest s.1, s.0);
    sound = tested_sound test r C;
    idem = C.idem;
    blind = λ a. rw (C.idem a, C.blind a);
    least = λ w a bs s.
        let x = C.least w a bs s.1 in
        (x.0, passes r s.0 x.1, x.2);
  }

-- the same of a demand behind what was written
passed_last : (t : Bool) (r : Refusal) {o : Out} {bs : Bits} → join o (cond t (wrote []) (refuses r)) ≡ wrote bs → (t ≡ true) × (o ≡ wrote bs)
passed_last t r {o} {bs} h =
    let j = join_inv o (cond t (wrote []) (refuses r)) bs h in
    let c = cond_inv t j.3 refused-wrote in
    (c.0, j.2 ∙ ap wrote (sym (append-nil j.0) ∙ ap (λ (y : Bits). j.0 ++ y) (wrote-bits c.1) ∙ j.4))

module _ {A : Type 0} (test : A → Bool) (r : Refusal) {g : Grade} {c : Codec A} where
  pub within_law : Lawful g c → Lawful g (within test r c)
  unfolding within run
  within_law C = record {
    own = λ a bs h.
        let g = passed_last (test (c.coded a)) r h in
        (g.0, C.own a bs g.1);
    complete = λ a bs rest s. rw (C.complete a bs rest s.1, s.0);
    sound = tested_sound test r C;
    idem = C.idem;
    blind = λ a. rw (C.idem a, C.blind a);
    least = λ w a bs s.
        let x = C.least w a bs s.1 in
        (x.0, rw s.0 (join-none x.1), x.2);
  }

module _ {A : Type 0} (test : A → Bool) (r : Refusal) {g : Grade} {c : Codec A} where
  pub checked_law : Lawful g c → ((a : A) (bs : Bits) → c.spells a bs → test a ≡ true) → ((a : A) → test (c.coded a) ≡ test a) → Lawful g (checked test r c)
  unfolding checked run
  checked_law C meets sees = record {
    own = λ a bs h. let g = passed (test a) r h in (g.0, C.own a bs g.1);
    complete = λ a bs rest s. C.complete a bs rest s.1;
    sound = λ bs a rest h.
        let x = C.sound bs a rest h in
        (x.0, (meets a x.0 x.1, x.1), x.2);
    idem = C.idem;
    blind = λ a. rw (sees a, C.blind a);
    least = λ w a bs s.
        let x = C.least w a bs s.1 in
        (x.0, passes r s.0 x.1, x.2);
  }

module _ {A B : Type 0} (to : B → A) (from : A → B) {g : Grade} {c : Codec A} where
  pub merged_law : Lawful g c → ((b : B) → from (to b) ≡ b) → ((a : A) → from (c.coded a) ≡ from a)
      → (Wants g → (b : B) (a : A) (bs : Bits) → from a ≡ b → c.spells a bs → (es : Bits) × (run (c.enc (to b)) ≡ wrote es) × Least es bs) → Lawful g (merged to from c)
  unfolding merged
  merged_law C there stable short = record {
    own = λ b bs h. (to b, there b, C.own (to b) bs h);
    complete = λ b bs rest s. rw (C.complete s.0 bs rest s.2) (ap (λ (x : B). got x rest) (stable s.0 ∙ s.1));
    sound = λ bs b rest h.
        let u = then_inv (c.dec bs) (λ a rest. got (from a) rest) b rest h in
        let x = C.sound bs u.0 u.1 u.2 in
        (x.0, (u.0, got-value u.3, x.1), ap (λ (t : Bits). x.0 ++ t) (sym (got-rest u.3)) ∙ x.2);
    idem = λ b. refl;
    blind = λ b. refl;
    least = λ w b bs s. short w b s.0 bs s.1 s.2;
  }

-- Two values that code the same are written the same.
pub same_coded : {A : Type 0} {g : Grade} {c : Codec A} → Lawful g c → (a b : A) → c.coded a ≡ c.coded b → run (c.enc a) ≡ run (c.enc b)
same_coded {A} {c = c} C a b h = sym (C.blind a) ∙ ap (λ (x : A). run (c.enc x)) h ∙ C.blind b
