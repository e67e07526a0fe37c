-- The values that a table reads, from whatever bits: of each form that the tables are made of, its parts; and of a field that is not coded, its
-- value.
use mathlib.Core.Path.{◌≡◌, refl, sym, ap, subst, ◌∙◌}
use mathlib.Core.List.{List, ◌∷◌}
use mathlib.Core.Bool.{Bool, true, false}
use Prim.Native.Nat.{ℕ, zero, suc, ◌+◌, ◌≤◌}
use native.Mathlib.Omega.{arith}
use lib.ListN.{length, get_or}
use lib.Dec.{ltb}
use borrow.Author.Tests.{le-ltb}
use Rattle.bits.specs.Bits.{Bits}
use Rattle.bits.specs.Codec.{Codec, got, and_then, absent, inferred, inferred_flag, choose, select, via, array, ◌▷◌}
use Rattle.bits.proofs.Laws.{then_inv, got-value}
use Rattle.sequence.specs.Optional.{f_if, flag_if}

-- the table reads the value, from some bits
pub record Found {A : Type 0} (c : Codec A) (a : A) : Type 0 where
  pub bits : Bits
  pub rest : Bits
  pub finds : c.dec bits ≡ got a rest

-- two parts; a struct; a branch
module _ {A B : Type 0} (c : Codec A) (k : A → Codec B) {p : A × B} (s : Found (c ▷ k) p) where
  parts : Found c p.0 × Found (k p.0) p.1
  unfolding ◌▷◌
  parts =
      let u = then_inv (c.dec s.bits) (λ a rest. and_then ((k a).dec rest) (λ b end. got (a, b) end)) p s.rest s.finds in
      let w = then_inv ((k u.0).dec u.1) (λ b end. got (u.0, b) end) p s.rest u.3 in
      subst (λ (q : A × B). Found c q.0 × Found (k q.0) q.1) (got-value w.3) (record { bits = s.bits; rest = u.1; finds = u.2 }, record { bits = u.1; rest = w.1; finds = w.2 })

  pub first : Found c p.0
  first = parts.0

  pub second : Found (k p.0) p.1
  second = parts.1

module _ {A B : Type 0} (to : B → A) (from : A → B) (c : Codec A) {b : B} where
  made : Found (via to from c) b → (a : A) × Found c a × (from a ≡ b)
  unfolding via
  made s = let u = then_inv (c.dec s.bits) (λ a rest. got (from a) rest) b s.rest s.finds in (u.0, record { bits = s.bits; rest = u.1; finds = u.2 }, got-value u.3)

  pub struct : ((a : A) → to (from a) ≡ a) → Found (via to from c) b → Found c (to b)
  struct back s = let u = made s in subst (λ (a : A). Found c a) (sym (back u.0) ∙ ap to u.2) u.1

module _ {A : Type 0} (t : Bool) (c d : Codec A) {a : A} (s : Found (choose t c d) a) where
  pub chosen : t ≡ true → Found c a
  unfolding choose
  chosen e = record { bits = s.bits; rest = s.rest; finds = rw e at s.finds }

  pub unchosen : t ≡ false → Found d a
  unfolding choose
  unchosen e = record { bits = s.bits; rest = s.rest; finds = rw e at s.finds }

-- a field that is not coded
pub is_absent : {A : Type 0} {z a : A} → Found (absent z) a → a ≡ z
unfolding absent
is_absent s = sym (got-value s.finds)

pub is_inferred : (e i : ℕ) {x a : ℕ} → Found (inferred e i x) a → a ≡ x
unfolding inferred
is_inferred e i s = sym (got-value s.finds)

pub is_inferred_flag : (e i : ℕ) {x a : Bool} → Found (inferred_flag e i x) a → a ≡ x
unfolding inferred_flag
is_inferred_flag e i s = sym (got-value s.finds)

pub uncoded : (t : Bool) (n e i : ℕ) {x a : ℕ} → Found (f_if t n e i x) a → t ≡ false → a ≡ x
unfolding f_if select inferred
uncoded t n e i s h = sym (got-value (rw h at s.finds))

pub uncoded_flag : (t : Bool) (e i : ℕ) {x a : Bool} → Found (flag_if t e i x) a → t ≡ false → a ≡ x
unfolding flag_if select inferred_flag
uncoded_flag t e i s h = sym (got-value (rw h at s.finds))

-- a flag that is known, and one that is not
pub never : {P : Type 0} {b : Bool} → b ≡ false → b ≡ true → P
never h k = absurd (let n : ◌≡◌ {A = ℕ} 0 1 = cc in omega arith)

pub by_test : {P : Type 0} (t : Bool) → (t ≡ true → P) → (t ≡ false → P) → P
by_test true p q = p refl
by_test false p q = q refl

-- the places of an array
module _ {A : Type 0} (z : A) (item : ℕ → Codec A) (n : ℕ) where
  place : (m i : ℕ) {l : List A} → Found (array z item (suc m) i n) l → (p : A × List A) × (p.0 ∷ p.1 ≡ l) × Found (choose (ltb i n) (item i) (absent z)) p.0 × Found (array z item m (suc i) n) p.1
  unfolding array
  place m i s = let u = made _ _ _ s in (u.0, u.2, first _ _ u.1, second _ _ u.1)

  pub places_set : (m i : ℕ) {l : List A} → Found (array z item m i n) l → length l ≡ m
  unfolding array
  places_set zero i s = rw (is_absent s)
  places_set (suc m) i s = let u = place m i s in rw (← u.1) (ap suc (places_set m (suc i) u.3))

  pub beyond_set : (m i : ℕ) {l : List A} → Found (array z item m i n) l → (j : ℕ) → n ≤ i + j → get_or l j z ≡ z
  unfolding array
  beyond_set zero i s j h = rw (is_absent s)
  beyond_set (suc m) i s zero h = let u = place m i s in rw (← u.1) (is_absent (unchosen _ _ _ u.2 (le-ltb i n (omega arith))))
  beyond_set (suc m) i s (suc j) h = let u = place m i s in rw (← u.1) (beyond_set m (suc i) u.3 j (omega arith))

  pub each_set : (P : A → Type 0) → P z → ((i : ℕ) (a : A) → Found (item i) a → P a) → (m i : ℕ) {l : List A} → Found (array z item m i n) l → (j : ℕ) → P (get_or l j z)
  unfolding array
  each_set P p q zero i s j = rw (is_absent s) p
  each_set P p q (suc m) i s zero = let u = place m i s in rw (← u.1) (by_test (ltb i n) (λ e. q i _ (chosen _ _ _ u.2 e)) (λ e. rw (is_absent (unchosen _ _ _ u.2 e)) p))
  each_set P p q (suc m) i s (suc j) = let u = place m i s in rw (← u.1) (each_set P p q m (suc i) u.3 j)
