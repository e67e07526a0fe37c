-- The leaves keep the laws: f(n) once over n, a flag, a field that is not there, an inferred one.
use mathlib.Core.Path.{◌≡◌, refl, sym, ◌∙◌, ap, subst}
use mathlib.Core.List.{List, [], ◌∷◌, ◌++◌}
use mathlib.Core.Bool.{Bool, true, false, cond}
use Prim.Native.Nat.{ℕ, zero, suc, ◌+◌, ◌^◌, ◌<◌}
use native.Mathlib.Omega.{arith}
use lib.ListN.{length, get_or}
use lib.Dec.{eqb, ltb}
use borrow.Author.Tests.{lt-ltb, ltb-true, eq-eqb, eqb-true}
use Rattle.bits.specs.Bits.{Bits, to_bits, from_bits}
use Rattle.bits.specs.Widths.{bit_length}
use Rattle.bits.specs.Walk.{Walk, field, unsigned, wrote, refuses, run}
use Rattle.bits.specs.Codec.{Codec, Got, got, stop, and_then, single, take_bits, field_as, f, take_flag, flag, absent, inferred, inferred_flag, same_flag, zeros, read_zeros, array, uncons, Nil, nil, choose, select, via, ◌▷◌}
use Rattle.bits.proofs.Numbers.{length-to_bits, from-to_fits, to-from, from_lt}
use Rattle.bits.specs.Lawful.{Grade, Lawful, same}
use Rattle.bits.specs.declared.answer.Refusal.{Refusal}
use Rattle.bits.specs.declared.answer.Refusal.TheVariants.{Inconsistent, Unfit, Reserved}
use Rattle.bits.proofs.Laws.{wrote-bits, refused-wrote, stop-got, got-value, got-rest, then_inv, cond_inv, seq_law, choose_law, select_law, allowed_law, within_law, via_law}

pub absent_law : {g : Grade} {A : Type 0} (z : A) → Lawful g (absent z)
unfolding absent run
absent_law z = record {
  own = λ a bs h. h;
  complete = λ a bs rest s. rw (← (wrote-bits s));
  sound = λ bs a rest h. ([], refl, sym (got-rest h));
  idem = λ a. refl;
  blind = λ a. refl;
  least = λ w a bs s. ([], refl, same (wrote-bits s));
}

-- one spelling only: two facts are enough
pub single_law : {g : Grade} {A : Type 0} (e : A → Walk) (d : Bits → Got A)
    → ((a : A) (bs rest : Bits) → run (e a) ≡ wrote bs → d (bs ++ rest) ≡ got a rest)
    → ((bs : Bits) (a : A) (rest : Bits) → d bs ≡ got a rest → (front : Bits) × (run (e a) ≡ wrote front) × (front ++ rest ≡ bs))
    → Lawful g (single e d)
single_law e d c s = record { own = λ a bs h. h; complete = c; sound = s; idem = λ a. refl; blind = λ a. refl; least = λ w a bs s. (bs, s, same refl) }

flag_sound : (bs : Bits) (a : Bool) (rest : Bits) → take_flag bs ≡ got a rest → (front : Bits) × (wrote (a ∷ []) ≡ wrote front) × (front ++ rest ≡ bs)
flag_sound [] a rest h = absurd (stop-got h)
flag_sound (b ∷ bs) a rest h = (a ∷ [], refl, cc)

pub flag_law : {g : Grade} → Lawful g flag
unfolding flag run
flag_law = single_law _ _ (λ b bs rest h. rw (← (wrote-bits h))) flag_sound

inferred_reads : (a x : ℕ) (bs rest : Bits) → a ≡ x → wrote [] ≡ wrote bs → got x (bs ++ rest) ≡ got a rest
inferred_reads a x bs rest h k = rw (h, ← (wrote-bits k))

inferred_writes : (e i a x : ℕ) → x ≡ a → cond (eqb a x) (wrote []) (refuses (Inconsistent e i)) ≡ wrote []
inferred_writes e i a x h = rw (eq-eqb a x (sym h))

pub inferred_law : {g : Grade} (e i x : ℕ) → Lawful g (inferred e i x)
unfolding inferred run
inferred_law e i x = single_law _ _
    (λ a bs rest h. let t = cond_inv (eqb a x) h refused-wrote in inferred_reads a x bs rest (eqb-true a x t.0) t.1)
    (λ bs a rest h. ([], inferred_writes e i a x (got-value h), sym (got-rest h)))

same_flag_lem : (a x : Bool) → same_flag a x ≡ true → x ≡ a
same_flag_lem a true h = sym h
same_flag_lem true false h = h
same_flag_lem false false h = refl

flag_same : (x : Bool) → same_flag x x ≡ true
flag_same true = refl
flag_same false = refl

flag_reads : (a x : Bool) (bs rest : Bits) → x ≡ a → wrote [] ≡ wrote bs → got x (bs ++ rest) ≡ got a rest
flag_reads a x bs rest h k = rw (h, ← (wrote-bits k))

flag_writes : (e i : ℕ) (a x : Bool) → x ≡ a → cond (same_flag a x) (wrote []) (refuses (Inconsistent e i)) ≡ wrote []
flag_writes e i a x h = rw (h, flag_same a)

pub inferred_flag_law : {g : Grade} (e i : ℕ) (x : Bool) → Lawful g (inferred_flag e i x)
unfolding inferred_flag run
inferred_flag_law e i x = single_law _ _
    (λ a bs rest h. let t = cond_inv (same_flag a x) h refused-wrote in flag_reads a x bs rest (same_flag_lem a x t.0) t.1)
    (λ bs a rest h. ([], flag_writes e i a x (got-value h), sym (got-rest h)))

pub take-front : (xs rest : Bits) → take_bits (length xs) (xs ++ rest) ≡ got xs rest
unfolding take_bits
take-front [] rest = refl
take-front (x ∷ xs) rest = rw (take-front xs rest)

take_more : (n : ℕ) (b : Bool) (bs ys tail xs rest : Bits) → got (b ∷ ys) tail ≡ got xs rest → length ys ≡ n → ys ++ tail ≡ bs → (length xs ≡ suc n) × (xs ++ rest ≡ b ∷ bs)
take_more n b bs ys tail xs rest h l e = rw (← (got-value h), ← (got-rest h), l, e) (refl, refl)

pub take_inv : (n : ℕ) (bs xs rest : Bits) → take_bits n bs ≡ got xs rest → (length xs ≡ n) × (xs ++ rest ≡ bs)
unfolding take_bits
take_inv zero bs xs rest h = rw (← (got-value h), ← (got-rest h)) (refl, refl)
take_inv (suc n) [] xs rest h = absurd (stop-got h)
take_inv (suc n) (b ∷ bs) xs rest h =
    let u = then_inv (take_bits n bs) (λ xs rest. got (b ∷ xs) rest) xs rest h in
    let v = take_inv n bs u.0 u.1 u.2 in
    take_more n b bs u.0 u.1 xs rest u.3 v.0 v.1

-- what a field writes are the number's bits, and it fits
module _ (n v : ℕ) (r : Refusal) where
  pub field-run : v < 2 ^ n → run (field n v r) ≡ wrote (to_bits n v)
  unfolding run
  field-run h = rw (lt-ltb v (2 ^ n) h)

  -- bits are what a field writes of their number
  field_of : (xs : Bits) → length xs ≡ n → v ≡ from_bits xs → run (field n v r) ≡ wrote xs
  unfolding run
  field_of xs l h = rw (h, ← l, lt-ltb (from_bits xs) (2 ^ length xs) (from_lt xs), to-from xs)

  module _ (bs : Bits) (s : run (field n v r) ≡ wrote bs) where
    pub field_fits : v < 2 ^ n
    unfolding run
    field_fits = ltb-true v (2 ^ n) (cond_inv (ltb v (2 ^ n)) s refused-wrote).0

    field-bits : to_bits n v ≡ bs
    field-bits = wrote-bits (sym (field-run field_fits) ∙ s)

    field-length : length bs ≡ n
    field-length = ap length (sym field-bits) ∙ length-to_bits n v

    field_taken : (rest : Bits) → take_bits n (bs ++ rest) ≡ got bs rest
    field_taken rest = subst (λ (k : ℕ). take_bits k (bs ++ rest) ≡ got bs rest) field-length (take-front bs rest)

    field_back : from_bits bs ≡ v
    field_back = ap from_bits (sym field-bits) ∙ from-to_fits n v field_fits

-- n bits of a value, whose numbers and values stand for each other where they fit
module _ {g : Grade} {A : Type 0} (n : ℕ) (to : A → ℕ) (from : ℕ → A) (r : A → Refusal) where
  pub field_as_law : ((v : ℕ) → v < 2 ^ n → to (from v) ≡ v) → ((a : A) → to a < 2 ^ n → from (to a) ≡ a) → Lawful g (field_as n to from r)
  field_as_law back there = single_law _ _ reads spelled
    where
      reads : (a : A) (bs rest : Bits) → run (field n (to a) (r a)) ≡ wrote bs → and_then (take_bits n (bs ++ rest)) (λ xs rest. got (from (from_bits xs)) rest) ≡ got a rest
      reads a bs rest h = rw (field_taken n (to a) (r a) bs h rest, field_back n (to a) (r a) bs h) (ap (λ (x : A). got x rest) (there a (field_fits n (to a) (r a) bs h)))

      spelled : (bs : Bits) (a : A) (rest : Bits) → and_then (take_bits n bs) (λ xs rest. got (from (from_bits xs)) rest) ≡ got a rest → (front : Bits) × (run (field n (to a) (r a)) ≡ wrote front) × (front ++ rest ≡ bs)
      spelled bs a rest h =
          let u = then_inv (take_bits n bs) (λ xs rest. got (from (from_bits xs)) rest) a rest h in
          let t = take_inv n bs u.0 u.1 u.2 in
          let l : from_bits u.0 < 2 ^ n = subst (λ (k : ℕ). from_bits u.0 < 2 ^ k) t.0 (from_lt u.0) in
          let e : to a ≡ from_bits u.0 = ap to (sym (got-value u.3)) ∙ back (from_bits u.0) l in
          (u.0, field_of n (to a) (r a) u.0 t.0 e, ap (λ (r : Bits). u.0 ++ r) (sym (got-rest u.3)) ∙ t.1)

pub f_law : {g : Grade} (n e i : ℕ) → Lawful g (f n e i)
unfolding f
f_law n e i = field_as_law n (λ v. v) (λ v. v) (λ v. Unfit e i (bit_length v)) (λ v h. refl) (λ v h. refl)

pub f-enc : (n e i v : ℕ) → v < 2 ^ n → run ((f n e i).enc v) ≡ wrote (to_bits n v)
unfolding f
f-enc n e i v h = field-run n v _ h

-- a spelled number fits
pub f_fits : (n e i v : ℕ) (bs : Bits) → (f n e i).spells v bs → v < 2 ^ n
unfolding f
f_fits n e i v bs s = field_fits n v _ bs s

pub f-length : (n e i v : ℕ) (bs : Bits) → (f n e i).spells v bs → length bs ≡ n
unfolding f
f-length n e i v bs s = field-length n v _ bs s

zeros_reads : (n : ℕ) (bs rest : Bits) → run (unsigned n 0 0 0) ≡ wrote bs → read_zeros n (bs ++ rest) ≡ got nil rest
zeros_reads n bs rest h =
    let k : take_bits n (bs ++ rest) ≡ got bs rest = field_taken n 0 _ bs h rest in
    let z : from_bits bs ≡ 0 = field_back n 0 _ bs h in
    rw (k, z)

pub zeros_law : {g : Grade} (n : ℕ) → Lawful g (zeros n)
unfolding zeros
zeros_law n = single_law _ _
    (λ a bs rest h. zeros_reads n bs rest h)
    (λ bs a rest h. let u = then_inv (take_bits n bs) (λ xs rest. cond (eqb (from_bits xs) 0) (got nil rest) (stop Reserved)) nil rest h in
    let c = cond_inv (eqb (from_bits u.0) 0) u.3 stop-got in
    let t = take_inv n bs u.0 u.1 u.2 in
    (u.0, field_of n 0 _ u.0 t.0 (sym (eqb-true (from_bits u.0) 0 c.0)), ap (λ (r : Bits). u.0 ++ r) (sym (got-rest c.1)) ∙ t.1))

pub zeros-length : (n : ℕ) (a : Nil) (bs : Bits) → (zeros n).spells a bs → length bs ≡ n
unfolding zeros
zeros-length n a bs s = field-length n 0 _ bs s

pub array_law : {g : Grade} {A : Type 0} (z : A) (item : ℕ → Codec A) → ((i : ℕ) → Lawful g (item i)) → (m i n : ℕ) → Lawful g (array z item m i n)
unfolding array
array_law z item I zero i n = absent_law []
array_law z item I (suc m) i n =
    via_law (uncons z) (λ p. p.0 ∷ p.1) (seq_law (choose_law (ltb i n) (I i) (absent_law z)) λ _. array_law z item I m (suc i) n) (λ a. refl)

-- what an array codes goes by its items below n
module _ {A : Type 0} (z : A) (item : ℕ → Codec A) (n : ℕ) where
  first_is : (xs : List A) → (uncons z xs).0 ≡ get_or xs 0 z
  first_is [] = refl
  first_is (x ∷ xs) = refl

  rest_is : (xs : List A) (j : ℕ) → get_or (uncons z xs).1 j z ≡ get_or xs (suc j) z
  rest_is [] j = refl
  rest_is (x ∷ xs) j = refl

  pub array-coded : (m i : ℕ) (xs ys : List A) → ((j : ℕ) → j < m → i + j < n → get_or xs j z ≡ get_or ys j z) → (array z item m i n).coded xs ≡ (array z item m i n).coded ys
  unfolding array via ◌▷◌ choose absent
  array-coded zero i xs ys h = refl
  array-coded (suc m) i xs ys h =
      let rest = array-coded m (suc i) (uncons z xs).1 (uncons z ys).1 (λ j k l. rest_is xs j ∙ h (suc j) (omega arith) (omega arith) ∙ sym (rest_is ys j)) in
      λ k. first (ltb i n) refl k ∷ rest k
    where
      first : (t : Bool) → ltb i n ≡ t → cond t ((item i).coded (uncons z xs).0) z ≡ cond t ((item i).coded (uncons z ys).0) z
      first true e = ap (item i).coded (first_is xs ∙ h 0 (omega arith) (omega (arith, ltb-true i n e)) ∙ sym (first_is ys))
      first false e = refl

-- What is coded whole.
pub f_all : (n e i a : ℕ) → (f n e i).coded a ≡ a
unfolding f
f_all n e i a = refl

pub flag_all : (a : Bool) → flag.coded a ≡ a
unfolding flag
flag_all a = refl

pub inferred_all : (e i x a : ℕ) → (inferred e i x).coded a ≡ a
unfolding inferred
inferred_all e i x a = refl

pub inferred_flag_all : (e i : ℕ) (x a : Bool) → (inferred_flag e i x).coded a ≡ a
unfolding inferred_flag
inferred_flag_all e i x a = refl

pub select_all : {A : Type 0} (t : Bool) (c d : Codec A) (a : A) → (select t c d).coded a ≡ a
unfolding select
select_all t c d a = refl

pub seq_all : {A B : Type 0} (c : Codec A) (k : A → Codec B) → ((a : A) → c.coded a ≡ a) → ((a : A) (b : B) → (k a).coded b ≡ b) → (p : A × B) → (c ▷ k).coded p ≡ p
unfolding ◌▷◌
seq_all c k h q p = λ i. (h p.0 i, (q (c.coded p.0) p.1) i)

-- Every law that a table's own law is made of: `search codec_laws` builds it.
pub ruleset codec_laws = (f_law, flag_law, inferred_law, inferred_flag_law, absent_law, zeros_law, seq_law, choose_law, select_law, allowed_law, within_law, f_all, flag_all, inferred_all, inferred_flag_all, select_all, seq_all)
