-- What lies where: a layout that keeps to its places gives back what was put into it, and so do layouts beside each other.
use mathlib.Core.Path.{◌≡◌, refl, sym, ap, ◌∙◌}
use mathlib.Core.List.{List, [], ◌∷◌}
use mathlib.Core.Bool.{Bool, true, false, cond}
use Prim.Native.Nat.{ℕ, zero, suc, ◌+◌, ◌<◌, ◌≤◌}
use native.Mathlib.Omega.{arith}
use lib.ListN.{length, get_or, length-set}
use lib.Seq.{get_or-set_same, get_or-set_other}
use lib.Dec.{ltb}
use borrow.Author.Tests.{ltb-false}
use Rattle.bits.specs.Codec.{Nil, nil, uncons}
use Rattle.fill.specs.Fills.{Way, same, bit, Layout, at, ◌▸◌, ◌▹◌, of, nowhere, each}
use Rattle.fill.specs.Rows.{Row, word, flag, none, struct, ◌&◌}

-- The layout l, of the values that fit, lies in the places from i on and before e: it keeps the array's length and all other places, it looks at no
-- other, and what was put in is found there.
pub record Lies {A : Type 0} (Fit : A → Type 0) (l : Layout (List ℕ) A) (i e : ℕ) : Type 0 where
  pub keeps : (a : A) (m : List ℕ) → length (l.put a m) ≡ length m
  pub before : (a : A) (m : List ℕ) (j : ℕ) → j < i → get_or (l.put a m) j 0 ≡ get_or m j 0
  pub behind : (a : A) (m : List ℕ) (j : ℕ) → e ≤ j → get_or (l.put a m) j 0 ≡ get_or m j 0
  pub looks : (m o : List ℕ) → ((j : ℕ) → i ≤ j → j < e → get_or m j 0 ≡ get_or o j 0) → l.get m ≡ l.get o
  pub back : (a : A) → Fit a → (m : List ℕ) → e ≤ length m → l.get (l.put a m) ≡ a

-- any value
abbrev pub Any : {A : Type 0} → A → Type 0
Any a = Nil

pub flag-back : (b : Bool) → bit.back (bit.to b) ≡ b
flag-back true = refl
flag-back false = refl

pub lies_at : {A : Type 0} (w : Way ℕ A) → ((a : A) → w.back (w.to a) ≡ a) → (i : ℕ) → Lies Any (at 0 i w) i (i + 1)
unfolding at
lies_at w h i = record {
  keeps = λ a m. length-set m i (w.to a);
  before = λ a m j l. get_or-set_other m i j (w.to a) 0 (λ e. omega arith);
  behind = λ a m j l. get_or-set_other m i j (w.to a) 0 (λ e. omega arith);
  looks = λ m o l. ap w.back (l i (omega arith) (omega arith));
  back = λ a f m l. ap w.back (get_or-set_same m i (w.to a) 0 (omega arith)) ∙ h a;
}

pub lies_nowhere : {A : Type 0} (z : A) (i e : ℕ) → Lies (λ a. a ≡ z) (nowhere z) i e
unfolding nowhere
lies_nowhere z i e = record { keeps = λ a m. refl; before = λ a m j l. refl; behind = λ a m j l. refl; looks = λ m o l. refl; back = λ a f m l. sym f }

module _ {A B : Type 0} {F : A → Type 0} {l : Layout (List ℕ) A} {i j e : ℕ} (L : Lies F l i j) (up : i ≤ j) (to : j ≤ e) where
  pub lies_both : {G : B → Type 0} {k : Layout (List ℕ) B} → Lies G k j e → Lies (λ p. F p.0 × G p.1) (l ▸ k) i e
  unfolding ◌▸◌
  lies_both {k = k} K = record {
    keeps = λ p m. K.keeps p.1 (l.put p.0 m) ∙ L.keeps p.0 m;
    before = λ p m n h. K.before p.1 (l.put p.0 m) n (omega arith) ∙ L.before p.0 m n h;
    behind = λ p m n h. K.behind p.1 (l.put p.0 m) n h ∙ L.behind p.0 m n (omega arith);
    looks = λ m o h. let a = L.looks m o (λ n u v. h n u (omega arith)) in let b = K.looks m o (λ n u v. h n (omega arith) v) in λ x. (a x, b x);
    back = λ p f m h.
        let n : e ≤ length (l.put p.0 m) = rw (L.keeps p.0 m) h in
        let a = L.looks (k.put p.1 (l.put p.0 m)) (l.put p.0 m) (λ n u v. K.before p.1 (l.put p.0 m) n v) ∙ L.back p.0 f.0 m (omega arith) in
        let b = K.back p.1 f.1 (l.put p.0 m) n in
        λ x. (a x, b x);
  }

  -- the second goes by the first
  pub lies_then : {G : A → B → Type 0} {k : A → Layout (List ℕ) B} → ((a : A) → Lies (G a) (k a) j e) → Lies (λ p. F p.0 × G p.0 p.1) (l ▹ k) i e
  unfolding ◌▹◌
  lies_then {k = k} K = record {
    keeps = λ p m. (K p.0).keeps p.1 (l.put p.0 m) ∙ L.keeps p.0 m;
    before = λ p m n h. (K p.0).before p.1 (l.put p.0 m) n (omega arith) ∙ L.before p.0 m n h;
    behind = λ p m n h. (K p.0).behind p.1 (l.put p.0 m) n h ∙ L.behind p.0 m n (omega arith);
    looks = λ m o h.
        let a = L.looks m o (λ n u v. h n u (omega arith)) in
        let b = (K (l.get m)).looks m o (λ n u v. h n (omega arith) v) in
        (λ x. (l.get m, b x)) ∙ (λ x. (a x, (k (a x)).get o));
    back = λ p f m h.
        let n : e ≤ length (l.put p.0 m) = rw (L.keeps p.0 m) h in
        let a = L.looks ((k p.0).put p.1 (l.put p.0 m)) (l.put p.0 m) (λ n u v. (K p.0).before p.1 (l.put p.0 m) n v) ∙ L.back p.0 f.0 m (omega arith) in
        let b = (K p.0).back p.1 f.1 (l.put p.0 m) n in
        (λ x. (a x, (k (a x)).get ((k p.0).put p.1 (l.put p.0 m)))) ∙ (λ x. (p.0, b x));
  }

-- a struct
pub lies_of : {A B : Type 0} {F : A → Type 0} {l : Layout (List ℕ) A} {i e : ℕ} (G : B → Type 0) (out : B → A) (in-again : A → B) → ((b : B) → G b → (in-again (out b) ≡ b) × F (out b))
    → Lies F l i e → Lies G (of out in-again l) i e
unfolding of
lies_of G out in-again h L = record {
  keeps = λ b m. L.keeps (out b) m;
  before = λ b m. L.before (out b) m;
  behind = λ b m. L.behind (out b) m;
  looks = λ m o g. ap in-again (L.looks m o g);
  back = λ b g m k. ap in-again (L.back (out b) (h b g).1 m k) ∙ (h b g).0;
}

-- an array of k items, from item j on, of which those from n on are z; item i lies in the places from p i on
pub record Items {A : Type 0} (z : A) (k j n : ℕ) (list : List A) : Type 0 where
  pub places : length list ≡ k
  pub beyond : (i : ℕ) → n ≤ j + i → get_or list i z ≡ z

no_items : {A : Type 0} (list : List A) → length list ≡ 0 → [] ≡ list
no_items [] e = refl
no_items (x ∷ list) e = absurd (omega arith)

first_item : {A : Type 0} (z : A) (k j n : ℕ) (list : List A) → Items z (suc k) j n list → ((uncons z list).0 ∷ (uncons z list).1 ≡ list) × ((n ≤ j → (uncons z list).0 ≡ z) × Items z k (suc j) n (uncons z list).1)
first_item z k j n [] h = absurd (omega (arith, h.places))
first_item z k j n (x ∷ list) h =
    (refl, (λ u. h.beyond 0 (omega arith), record { places = omega (arith, h.places); beyond = λ i u. h.beyond (suc i) (omega arith) }))

module _ {A : Type 0} (z : A) (l : ℕ → Layout (List ℕ) A) (p : ℕ → ℕ) (up : (i : ℕ) → p i ≤ p (suc i)) (L : (i : ℕ) → Lies Any (l i) (p i) (p (suc i))) (n : ℕ) where
  item : (j : ℕ) → Lies (λ a. n ≤ j → a ≡ z) (cond (ltb j n) (l j) (nowhere z)) (p j) (p (suc j))
  item j = go (ltb j n) refl
    where
      go : (b : Bool) → ltb j n ≡ b → Lies (λ a. n ≤ j → a ≡ z) (cond b (l j) (nowhere z)) (p j) (p (suc j))
      go true e = record { keeps = (L j).keeps; before = (L j).before; behind = (L j).behind; looks = (L j).looks; back = λ a f. (L j).back a nil }
      go false e = let N = lies_nowhere z (p j) (p (suc j)) in record { keeps = N.keeps; before = N.before; behind = N.behind; looks = N.looks; back = λ a f. N.back a (f (ltb-false j n e)) }

  further : (k j : ℕ) → p j ≤ p (j + k)
  further zero j = let e : j + 0 ≡ j = omega arith in rw e (omega arith)
  further (suc k) j = let e : j + suc k ≡ suc (j + k) = omega arith in rw e (omega (arith, further k j, up (j + k)))

  pub lies_each : (k j : ℕ) → Lies (Items z k j n) (each z l k j n) (p j) (p (j + k))
  unfolding each nowhere
  lies_each zero j = record { keeps = λ a m. refl; before = λ a m i u. refl; behind = λ a m i u. refl; looks = λ m o u. refl; back = λ a f m u. no_items a f.places }
  lies_each (suc k) j =
      let e : j + suc k ≡ suc j + k = omega arith in
      rw e (lies_of (Items z (suc k) j n) (uncons z) (λ q. q.0 ∷ q.1) (first_item z k j n) (lies_both (item j) (up j) (further k (suc j)) (lies_each k (suc j))))

-- fewer values, and the places under other names
pub fewer : {A : Type 0} {F : A → Type 0} {l : Layout (List ℕ) A} {i e : ℕ} (G : A → Type 0) → ((a : A) → G a → F a) → Lies F l i e → Lies G l i e
fewer G h L = record { keeps = L.keeps; before = L.before; behind = L.behind; looks = L.looks; back = λ a g. L.back a (h a g) }

pub within : {A : Type 0} {F : A → Type 0} {l : Layout (List ℕ) A} {i e j f : ℕ} → i ≡ j → e ≡ f → Lies F l i e → Lies F l j f
within p q L = rw (← p, ← q) L

pub word_at : (i e : ℕ) → i + 1 ≡ e → Lies Any (at 0 i same) i e
word_at i e h = within refl h (lies_at same (λ a. refl) i)

pub flag_at : (i e : ℕ) → i + 1 ≡ e → Lies Any (at 0 i bit) i e
flag_at i e h = within refl h (lies_at bit flag-back i)

-- a row, from whatever place on
pub data Stands {A : Type 0} (F : A → Type 0) (r : Row A) : Type 0 where
  stands : ((i : ℕ) → Lies F (r.from i) i (i + r.size)) → Stands F r

pub word_stands : Stands Any word
word_stands = stands (λ i. word_at i (i + 1) refl)

pub flag_stands : Stands Any flag
flag_stands = stands (λ i. flag_at i (i + 1) refl)

pub none_stands : Stands Any none
none_stands = stands (λ i. fewer Any (λ a g. refl) (lies_nowhere nil i (i + 0)))

module _ {A B : Type 0} {r : Row A} {q : Row B} where
  pub both_stand : {F : A → Type 0} {G : B → Type 0} → Stands F r → Stands G q → Stands (λ p. F p.0 × G p.1) (r & q)
  both_stand (stands R) (stands Q) = stands (λ i. within refl (omega arith) (lies_both (R i) (omega arith) (omega arith) (Q (i + r.size))))

pub fewer_stand : {A : Type 0} {F : A → Type 0} {r : Row A} (G : A → Type 0) → ((a : A) → G a → F a) → Stands F r → Stands G r
fewer_stand G h (stands R) = stands (λ i. fewer G h (R i))

pub struct_stands : {A B : Type 0} {F : A → Type 0} {r : Row A} (G : B → Type 0) (out : B → A) (in-again : A → B) → ((b : B) → G b → (in-again (out b) ≡ b) × F (out b)) → Stands F r → Stands G (struct out in-again r)
struct_stands G out in-again h (stands R) = stands (λ i. lies_of G out in-again h (R i))

pub any_both : {A B : Type 0} {r : Row A} {q : Row B} → Stands Any r → Stands Any q → Stands Any (r & q)
any_both R Q = fewer_stand Any (λ p g. (nil, nil)) (both_stand R Q)

pub any_struct : {A B : Type 0} {r : Row A} (out : B → A) (in-again : A → B) → ((b : B) → in-again (out b) ≡ b) → Stands Any r → Stands Any (struct out in-again r)
any_struct out in-again h R = struct_stands Any out in-again (λ b g. (h b, nil)) R
