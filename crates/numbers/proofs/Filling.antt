-- An array that is filled from its first place on.
use mathlib.Core.Path.{◌≡◌, refl, sym, ap, ◌∙◌}
use mathlib.Core.List.{List, [], ◌∷◌, ◌++◌, map, append_assoc, append-nil}
use mathlib.Core.Logic.{⊎_elim}
use Prim.Native.Nat.{ℕ, zero, suc, ◌+◌, ◌*◌, ◌<◌, ◌≤◌, min}
use native.Mathlib.Omega.{arith}
use native.Mathlib.Numerals.{add-one}
use lib.ListN.{length, replicate, set, take, get_or, length-append, length-replicate, get_or-append}
use lib.Seq.{set_at, take_at, get_or-append-add}
use Rattle.bits.proofs.Storing.{below_or}
use Rattle.numbers.specs.Numbers.{joined, each}

-- an array of m places begins with `front`
pub data Begun {A : Type 0} (front : List A) (m : ℕ) (list : List A) : Type 0 where
  begun : (rest : List A) → length front + length rest ≡ m → list ≡ front ++ rest → Begun front m list

no_rest : {A : Type 0} (rest : List A) → length rest ≡ 0 → rest ≡ []
no_rest [] e = refl
no_rest (x ∷ rest) e = absurd (omega arith)

module _ {A : Type 0} {m : ℕ} where
  pub begin : (list : List A) → length list ≡ m → Begun [] m list
  begin list e = begun list (rw e (omega arith)) refl

  pub finish : {front list : List A} → Begun front m list → m ≤ length front → list ≡ front
  finish {front} (begun rest k e) h = e ∙ ap (λ (l : List A). front ++ l) (no_rest rest (omega arith)) ∙ append-nil front

  one_more : {front list : List A} (a : A) {i : ℕ} → Begun front m list → length front ≡ i → i < m → Begun (front ++ a ∷ []) m (set list i a)
  one_more {front} a {i} (begun [] k e) l h = absurd (omega arith)
  one_more {front} a {i} (begun (x ∷ rest) k e) l h = begun rest (rw length-append (omega arith)) (rw e (set_at front x rest a i l ∙ sym (append_assoc front (a ∷ []) rest)))

length-joined : {A : Type 0} (k n : ℕ) (f : ℕ → List A) → ((i : ℕ) → length (f i) ≡ k) → length (joined n f) ≡ k * n
unfolding joined
length-joined k zero f h = omega arith
length-joined k (suc n) f h = rw (length-append, h n, length-joined k n f h) (omega arith)

length-each : {A : Type 0} (f : ℕ → A) (i : ℕ) → length (each i f) ≡ i
length-each f i = length-joined 1 i (λ j. f j ∷ []) (λ j. refl) ∙ omega arith

pub get_d_each : {A : Type 0} (f : ℕ → A) (n i : ℕ) (z : A) → i < n → get_or (each n f) i z ≡ f i
unfolding joined
get_d_each f zero i z h = absurd (omega arith)
get_d_each f (suc n) i z h = ⊎_elim
    (λ l. let k : i < length (each n f) = rw (length-each f n) l in get_or-append (each n f) (f n ∷ []) z i k ∙ get_d_each f n i z l)
    (λ l. let e : length (each n f) + 0 ≡ i = omega (arith, length-each f n) in
    let k : n ≡ i = omega arith in
    (rw e at (get_or-append-add (each n f) (f n ∷ []) 0 z)) ∙ ap f k)
    (below_or i n)

take-each : {A : Type 0} (f : ℕ → A) (i k : ℕ) (rest : List A) → k ≤ i → take k (each i f ++ rest) ≡ each k f
unfolding joined
take-each f zero k rest h = let e : k ≡ 0 = omega arith in rw e
take-each f (suc i) k rest h = ⊎_elim
    (λ l. rw (append_assoc (each i f) (f i ∷ []) rest) (take-each f i k (f i ∷ rest) (omega arith)))
    (λ l. let e : k ≡ suc i = omega arith in rw e (take_at (each (suc i) f) rest (suc i) (length-each f (suc i))))
    (below_or k (suc i))

-- a loop over the m places of an array: those below i hold f's values
pub data Filled {A : Type 0} (f : ℕ → A) (m : ℕ) (list : List A) (i : ℕ) : Type 0 where
  filled : Begun (each i f) m list → Filled f m list i

pub filled_none : {A : Type 0} {f : ℕ → A} {m : ℕ} (z : A) → Filled f m (replicate m z) 0
unfolding joined
filled_none {m = m} z = filled (begin (replicate m z) (length-replicate m z))

module _ {A : Type 0} {f : ℕ → A} {m : ℕ} {list : List A} {i : ℕ} where
  pub filled_on : Filled f m list i → i < m → {a : A} → a ≡ f i → Filled f m (set list i a) (i + 1)
  unfolding joined
  filled_on (filled g) h {a} e = rw (e, add-one i) (filled (one_more (f i) g (length-each f i) h))

  -- a loop over the first k places, or all of them
  module _ {end : ℕ} (k : ℕ) (ends : end ≡ min k m) where
    pub part_on : Filled f m list i → i < end → {a : A} → a ≡ f i → Filled f m (set list i a) (i + 1)
    part_on g h e = filled_on g (omega arith) e

    pub part_end : Filled f m list i → end ≤ i → take (min k m) list ≡ each (min k m) f
    part_end (filled (begun rest l e)) h = rw e (take-each f i (min k m) rest (omega arith))

  pub filled-end : Filled f m list i → m ≤ i → list ≡ each m f
  filled-end (filled (begun rest k e)) h =
      let j : i ≡ m = omega (arith, length-each f i) in
      let l : list ≡ each i f = finish {front = each i f} (begun rest k e) (omega (arith, length-each f i)) in
      rw j at l

-- and of another array, over each place of which a function went
map_append : {A B : Type 0} (g : A → B) (xs ys : List A) → map g (xs ++ ys) ≡ map g xs ++ map g ys
map_append g [] ys = refl
map_append g (x ∷ xs) ys = rw (map_append g xs ys)

map_each : {A B : Type 0} (g : A → B) (f : ℕ → A) (n : ℕ) → map g (each n f) ≡ each n (λ i. g (f i))
unfolding joined
map_each g f zero = refl
map_each g f (suc n) = map_append g (each n f) (f n ∷ []) ∙ rw (map_each g f n)

pub filled-map : {A B : Type 0} (g : A → B) (f : ℕ → A) (m : ℕ) {list : List B} {i : ℕ} → Filled (λ j. g (f j)) m list i → m ≤ i → list ≡ map g (each m f)
filled-map g f m h l = filled-end h l ∙ sym (map_each g f m)
