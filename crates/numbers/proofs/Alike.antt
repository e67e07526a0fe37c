-- Two values that a table writes alike: by the same bits, or with the same refusal; and where nothing is refused, what is coded of them is the same, so
-- that what follows goes the same way. Each form of a table keeps it.
use mathlib.Core.Path.{◌≡◌, refl, ap, ◌∙◌}
use mathlib.Core.List.{List, [], ◌∷◌, map}
use mathlib.Core.Bool.{Bool, true, false}
use Prim.Native.Nat.{ℕ, zero, suc}
use lib.Dec.{ltb}
use lib.ListN.{get_or}
use Rattle.bits.specs.Walk.{Out, End, done, refused, after, join, run}
use Rattle.bits.specs.Codec.{Codec, absent, ◌▷◌, choose, via, array, uncons}
use Rattle.bits.proofs.Laws.{refused-done}

pub record Alike {A : Type 0} (c : Codec A) (a b : A) : Type 0 where
  pub runs : run (c.enc a) ≡ run (c.enc b)
  pub codes : (run (c.enc a)).end ≡ done → c.coded a ≡ c.coded b

pub equal : {A : Type 0} {c : Codec A} {a b : A} → a ≡ b → Alike c a b
equal {c = c} e = record { runs = rw e; codes = λ _. rw e }

pub itself : {A : Type 0} {c : Codec A} {a : A} → Alike c a a
itself = equal refl

-- behind a refusal nothing matters
join-alike : (o p q : Out) → (o.end ≡ done → p ≡ q) → join o p ≡ join o q
unfolding join
join-alike o p q h = go o.end refl
  where
    go : (e : End) → o.end ≡ e → after e o.bits p ≡ after e o.bits q
    go done k = ap (after done o.bits) (h k)
    go (refused r) k = refl

join-done : (o p : Out) → (join o p).end ≡ done → (o.end ≡ done) × (p.end ≡ done)
unfolding join
join-done o p h = go o.end refl h
  where
    go : (e : End) → o.end ≡ e → (after e o.bits p).end ≡ done → (o.end ≡ done) × (p.end ≡ done)
    go done k h = (k, h)
    go (refused r) k h = absurd (refused-done h)

module _ {A B : Type 0} {c : Codec A} {a b : A} {x y : B} where
  -- what follows may go by what was coded, where it is not refused
  following : (k : A → Codec B) → Alike c a b → ((run (c.enc a)).end ≡ done → Alike (k (c.coded a)) x y) → Alike (c ▷ k) (a, x) (b, y)
  unfolding ◌▷◌ run
  following k first next = record {
    runs =
        join-alike (run (c.enc a)) _ _ (λ h. (next h).runs ∙ ap (λ (z : A). run ((k z).enc y)) (first.codes h)) ∙
        ap (λ (o : Out). join o (run ((k (c.coded b)).enc y))) first.runs;
    codes = λ h.
        let ends = join-done (run (c.enc a)) _ h in
        ap (λ (z : B). (c.coded a, z)) ((next ends.0).codes ends.1) ∙ ap (λ (z : A). (z, (k z).coded y)) (first.codes ends.0);
  }

  pub both : {k : A → Codec B} → Alike c a b → ((z : A) → Alike (k z) x y) → Alike (c ▷ k) (a, x) (b, y)
  both {k} first next = following k first (λ _. next (c.coded a))

module _ {A : Type 0} {c : Codec A} {a b : A} where
  pub chosen : {d : Codec A} (t : Bool) → Alike c a b → Alike d a b → Alike (choose t c d) a b
  unfolding choose run
  chosen true p q = record { runs = p.runs; codes = p.codes }
  chosen false p q = record { runs = q.runs; codes = q.codes }

pub nothing : {A : Type 0} (z a b : A) → Alike (absent z) a b
unfolding absent
nothing z a b = record { runs = refl; codes = λ _. refl }

module _ {A B : Type 0} (to : B → A) (from : A → B) {c : Codec A} {a b : B} where
  pub through : Alike c (to a) (to b) → Alike (via to from c) a b
  unfolding via
  through inner = record { runs = inner.runs; codes = λ h. ap from (inner.codes h) }

-- two lists, place by place
pub data Each {A : Type 0} (R : A → A → Type 0) : List A → List A → Type 0 where
  none : Each R [] []
  more : {a b : A} {xs ys : List A} → R a b → Each R xs ys → Each R (a ∷ xs) (b ∷ ys)

pub listed : {A : Type 0} {R : A → A → Type 0} (z : A) (item : ℕ → Codec A) → ((i : ℕ) (a b : A) → R a b → Alike (item i) a b)
    → (m i n : ℕ) {xs ys : List A} → Each R xs ys → Alike (array z item m i n) xs ys
unfolding array
listed z item each zero i n rs = nothing [] _ _
listed z item each (suc m) i n none = itself
listed z item each (suc m) i n (more {a} {b} r rs) = through (uncons z) (λ p. p.0 ∷ p.1) (both (chosen (ltb i n) (each i a b r) (nothing z a b)) (λ _. listed z item each m (suc i) n rs))

-- what a map leaves
pub mapped : {A : Type 0} {R : A → A → Type 0} (f : A → A) → ((x : A) → R (f x) x) → (xs : List A) → Each R (map f xs) xs
mapped f r [] = none
mapped f r (x ∷ xs) = more (r x) (mapped f r xs)

-- what holds of every entry of a table
pub data All {A : Type 0} (P : A → Type 0) : List A → Type 0 where
  last : All P []
  next : {x : A} {xs : List A} → P x → All P xs → All P (x ∷ xs)

pub entry : {A : Type 0} (P : A → Type 0) (z : A) → P z → {xs : List A} → All P xs → (i : ℕ) → P (get_or xs i z)
entry P z p last i = p
entry P z p (next q qs) zero = q
entry P z p (next q qs) (suc i) = entry P z p qs i
