-- How a reading function meets its table: the laws of Said, by the table's forms.
use mathlib.Core.Path.{◌≡◌, refl, sym, ap, subst, ◌∙◌}
use mathlib.Core.List.{List}
use mathlib.Core.Bool.{Bool, true, false, not}
use Prim.Native.Nat.{ℕ, max, min, ◌^◌, ◌<◌, ◌≤◌}
use native.Mathlib.Omega.{arith}
use lib.Dec.{ltb, eqb}
use borrow.Author.Tests.{lt-ltb, le-ltb, eq-eqb, ne_eqb, not-true, not-false}
use Rattle.std.specs.Prelude.{Result, Ok, Err, IsErrAnd, is_err}
use Rattle.std.specs.Result.{result_from_control_flow}
use Rattle.std.specs.declared.ops.ControlFlow.TheVariants.{Continue, Break}
use Rattle.std.proofs.lemmas.Result.{err_from_is_err_and}
use Rattle.bits.specs.Bits.{Bits, from_bits, from, end}
use Rattle.bits.specs.Codec.{Codec, Got, got, stop, take_bits, field_as, f, choose, select, absent, inferred, inferred_flag, allowed, checked, via, merged, ◌▷◌, nil}
use Rattle.bits.specs.Answers.{found, Moved, Reads}
use Rattle.bits.specs.declared.answer.Refusal.{Refusal}
use Rattle.bits.proofs.Bounds.{f_small}
use Rattle.bits.proofs.Reading.{reads_only, fuse, whole, through, through_same, got_same, got_assoc}
use Rattle.reader.specs.declared.BitReader.{BitReader}
use Rattle.reader.specs.Reading.{placed, Said, said, Completes, completes}

-- the answer, of the bytes that a reader before it had; and the bytes themselves
pub reads : {A : Type 0} {d : Bits → Got A} {p n : BitReader} {r : Result A Refusal} → Said d p n r → Reads d p.bytes.now p.at (placed r n.at)
reads (said e r) = r

pub kept : {A : Type 0} {d : Bits → Got A} {p n : BitReader} {r : Result A Refusal} → Said d p n r → n.bytes ≡ p.bytes
kept (said e r) = e

pub reads_at : {A : Type 0} {d : Bits → Got A} (o : BitReader) {p n : BitReader} {r : Result A Refusal} → Said d p n r → p.bytes ≡ o.bytes → Reads d o.bytes.now p.at (placed r n.at)
reads_at o s e = rw e at (reads s)

-- One answer: two that a contract allows are equal.
pub only : {A : Type 0} {d : Bits → Got A} {p n o : BitReader} {r s : Result A Refusal} → Said d p n r → Said d p o s → placed r n.at ≡ placed s o.at
only {n = n} {o} {r} {s} (said e i) (said g j) = reads_only (placed r n.at) (placed s o.at) i j

-- what the exit of a `?` returns
pub exit : {A : Type 0} {r : Result A Refusal} {y : Refusal} → IsErrAnd r (λ z. z ≡ y) → r ≡ Err y
exit {r = r} i = let w = err_from_is_err_and r i in w.1 ∙ ap Err w.2

-- a refusal, with others behind it or before it
module _ {A B : Type 0} {d : Bits → Got A} {p q : BitReader} where
  pub stops : {y : Refusal} (t : Bits → Got B) → Said d p q (Err y) → ((bs : Bits) → d bs ≡ stop y → t bs ≡ stop y) → Said t p q (Err y)
  unfolding found Moved
  stops t (said e s) h = said e (record { finds = h (from p.bytes.now p.at) s.finds; moves = nil })

-- a refusal of which the reader goes back, to where it stood or to any place
module _ {A : Type 0} {d : Bits → Got A} {p q n : BitReader} where
  pub turned_back : {r : Result A Refusal} → Said d p q r → is_err r ≡ true → n.bytes ≡ q.bytes → Said d p n r
  unfolding found Moved
  turned_back {r = Err y} (said e s) h b = said (b ∙ e) (record { finds = s.finds; moves = nil })
  turned_back {r = Ok a} s h b = absurd (never h)
    where
      never : false ≡ true → ⊥
      never h = let z : ◌≡◌ {A = ℕ} 0 1 = cc in omega arith

-- the whole of a table
pub start : {A : Type 0} (t : Codec A) {p n : BitReader} {r : Result A Refusal} → Completes (λ (a : A). a) t p n r → Said t.dec p n r
start t {p} (completes (said e g)) = said e (record { finds = sym (whole (t.dec (from p.bytes.now p.at))) ∙ g.finds; moves = g.moves })

-- places that came from one another
further : {C : Type 0} (xs : List ℕ) (p q n : ℕ) (r : Result C Refusal) → max q (end xs) ≡ max p (end xs) → Moved xs q (placed r n) → Moved xs p (placed r n)
unfolding Moved
further xs p q n (Ok a) h m = m ∙ h
further xs p q n (Err y) h m = nil

-- what a `?` was passed: where it went on, and at its exit
pub went : {A : Type 0} {d : Bits → Got A} {p q : BitReader} {g : Result A Refusal} {x : _} {a : A} → Said d p q g → g ≡ result_from_control_flow x → x ≡ Continue a → Said d p q (Ok a)
went {d = d} {p} {q} s e h = subst (λ (r : _). Said d p q r) (e ∙ ap result_from_control_flow h) s

pub went_not : {A : Type 0} {d : Bits → Got A} {p q : BitReader} {g : Result A Refusal} {x : _} {y : _} → Said d p q g → g ≡ result_from_control_flow x → x ≡ Break y → Said d p q (Err y.0)
went_not {d = d} {p} {q} s e h = subst (λ (r : _). Said d p q r) (e ∙ ap result_from_control_flow h) s

-- A table that is read by d. A field is read whatever element its refusals name.
pub data By {A : Type 0} (t : Codec A) (d : Bits → Got A) : Type 0 where
  by : ((bs : Bits) → t.dec bs ≡ d bs) → By t d

pub by_dec : {A : Type 0} (t : Codec A) → By t t.dec
by_dec t = by (λ bs. refl)

pub by_f : (n e i : ℕ) → By (f n e i) (f n 0 0).dec
unfolding f
by_f n e i = by (λ bs. refl)

pub by_f_wide : (n e i : ℕ) → n ≤ 32 → By (f n e i) (f (min n 32) 0 0).dec
unfolding f
by_f_wide n e i h = let w : min n 32 ≡ n = omega arith in rw w (by (λ bs. refl))

pub read_by : {A : Type 0} (t : Codec A) {d : Bits → Got A} {p q : BitReader} {r : Result A Refusal} → Said d p q r → By t d → Said t.dec p q r
read_by t {p = p} (said e s) (by h) = said e (record { finds = h (from p.bytes.now p.at) ∙ s.finds; moves = s.moves })

-- the same, for a step's own answer
module _ (n e i : ℕ) {p q : BitReader} {r : Result ℕ Refusal} where
  pub f_of : Said (f n 0 0).dec p q r → Said (f n e i).dec p q r
  f_of s = read_by (f n e i) s (by_f n e i)

  pub f_of_wide : Said (f (min n 32) 0 0).dec p q r → n ≤ 32 → Said (f n e i).dec p q r
  f_of_wide s h = read_by (f n e i) s (by_f_wide n e i h)

-- A step: its value, and what comes behind it; its refusal at the exit of a `?`; the last one. Each law stands twice: over what is known of the value
-- behind a `?`, for `grind`; and over the facts of the call itself, for `search`.
module _ {A B C : Type 0} (t : Codec A) (k : A → Codec B) {make : A × B → C} {p q : BitReader} {r : Result C Refusal} where
  pub on : {a : A} {n : BitReader} → Said t.dec p q (Ok a) → Completes (λ b. make (a, b)) (k a) q n r → Completes make (t ▷ k) p n r
  unfolding ◌▷◌ found Moved
  on {a} {n} (said e s) (completes (said same g)) =
      let xs = p.bytes.now in
      let w : Reads (λ bs. through (λ b. make (a, b)) ((k a).dec bs)) xs q.at (placed r n.at) = rw e at g in
      completes (said (same ∙ e) (record { finds = rw s.finds (fuse ((k a).dec (from xs q.at)) (λ b. (a, b)) make ∙ w.finds); moves = further xs p.at q.at n.at r s.moves w.moves }))

  pub halt : {y : Refusal} → Said t.dec p q (Err y) → IsErrAnd r (λ z. z ≡ y) → Completes make (t ▷ k) p q r
  unfolding ◌▷◌
  halt {y} s i = rw (exit i) (completes (stops _ s (λ bs e. rw e refl)))

  module _ {d : Bits → Got A} {g : Result A Refusal} {x : _} where
    pub then_on : {a : A} {n : BitReader} → Said d p q g → By t d → g ≡ result_from_control_flow x → x ≡ Continue a → Completes (λ b. make (a, b)) (k a) q n r → Completes make (t ▷ k) p n r
    then_on s h e w c = on (read_by t (went s e w) h) c

    pub then_halt : {y : _} → Said d p q g → By t d → g ≡ result_from_control_flow x → x ≡ Break y → IsErrAnd r (λ z. z ≡ y.0) → Completes make (t ▷ k) p q r
    then_halt s h e w i = halt (read_by t (went_not s e w) h) i

module _ {A C : Type 0} (t : Codec A) {make : A → C} {p q : BitReader} where
  pub last : {a : A} {c : C} → Said t.dec p q (Ok a) → c ≡ make a → Completes make t p q (Ok c)
  unfolding found Moved
  last (said e s) h = completes (said e (record { finds = rw (s.finds, h) refl; moves = s.moves }))

  pub last_no : {y : Refusal} {r : Result C Refusal} → Said t.dec p q (Err y) → IsErrAnd r (λ z. z ≡ y) → Completes make t p q r
  last_no {y} s i = rw (exit i) (completes (stops _ s (λ bs e. rw e refl)))

  module _ {d : Bits → Got A} {g : Result A Refusal} {x : _} where
    pub then_last : {a : A} {c : C} → Said d p q g → By t d → g ≡ result_from_control_flow x → x ≡ Continue a → c ≡ make a → Completes make t p q (Ok c)
    then_last s h e w c = last (read_by t (went s e w) h) c

    pub then_no : {y : _} {r : Result C Refusal} → Said d p q g → By t d → g ≡ result_from_control_flow x → x ≡ Break y → IsErrAnd r (λ z. z ≡ y.0) → Completes make t p q r
    then_no s h e w i = last_no (read_by t (went_not s e w) h) i

-- the same bits, seen as another value
module _ {A B C : Type 0} (to : B → A) (h : A → B) (t : Codec A) {make : B → C} {p q : BitReader} {r : Result C Refusal} where
  pub struct : Completes (λ a. make (h a)) t p q r → Completes make (via to h t) p q r
  unfolding via
  struct (completes (said e g)) = completes (said e (record { finds = fuse (t.dec (from p.bytes.now p.at)) h make ∙ g.finds; moves = g.moves }))

  pub one_of : Completes (λ a. make (h a)) t p q r → Completes make (merged to h t) p q r
  unfolding merged
  one_of (completes (said e g)) = completes (said e (record { finds = fuse (t.dec (from p.bytes.now p.at)) h make ∙ g.finds; moves = g.moves }))

-- n bits, whose number codes a value
module _ {B C : Type 0} (n : ℕ) (to : B → ℕ) (h : ℕ → B) (refusal : B → Refusal) {make : B → C} {p q : BitReader} {r : Result C Refusal} where
  pub field_as_lem : Completes (λ v. make (h v)) (f n 0 0) p q r → Completes make (field_as n to h refusal) p q r
  unfolding f
  field_as_lem (completes (said e g)) = completes (said e (record { finds = go (take_bits n (from p.bytes.now p.at)) ∙ g.finds; moves = g.moves }))
    where
      go : (t : Got Bits) → through make (through (λ xs. h (from_bits xs)) t) ≡ through (λ v. make (h v)) (through (λ xs. from_bits xs) t)
      go (got bs rest) = refl
      go (stop q) = refl

-- a branch
module _ {A C : Type 0} (b : Bool) (t u : Codec A) {make : A → C} {p q : BitReader} {r : Result C Refusal} where
  pub yes : b ≡ true → Completes make t p q r → Completes make (choose b t u) p q r
  unfolding choose
  yes h (completes (said e g)) = completes (said e (record { finds = rw h g.finds; moves = g.moves }))

  pub no : b ≡ false → Completes make u p q r → Completes make (choose b t u) p q r
  unfolding choose
  no h (completes (said e g)) = completes (said e (record { finds = rw h g.finds; moves = g.moves }))

  pub yes_not : not b ≡ false → Completes make t p q r → Completes make (choose b t u) p q r
  yes_not h c = yes (not-false b h) c

  pub no_not : not b ≡ true → Completes make u p q r → Completes make (choose b t u) p q r
  no_not h c = no (not-true b h) c

  pub select_yes : b ≡ true → Completes make t p q r → Completes make (select b t u) p q r
  unfolding select
  select_yes h (completes (said e g)) = completes (said e (record { finds = rw h g.finds; moves = g.moves }))

  pub select_no : b ≡ false → Completes make u p q r → Completes make (select b t u) p q r
  unfolding select
  select_no h (completes (said e g)) = completes (said e (record { finds = rw h g.finds; moves = g.moves }))

module _ {A C : Type 0} (a b : ℕ) (t u : Codec A) {make : A → C} {p q : BitReader} {r : Result C Refusal} where
  pub yes_lt : a < b → Completes make t p q r → Completes make (choose (ltb a b) t u) p q r
  yes_lt h c = yes (ltb a b) t u (lt-ltb a b h) c

  pub no_lt : b ≤ a → Completes make u p q r → Completes make (choose (ltb a b) t u) p q r
  no_lt h c = no (ltb a b) t u (le-ltb a b h) c

  pub yes_eq : a ≡ b → Completes make t p q r → Completes make (choose (eqb a b) t u) p q r
  yes_eq h c = yes (eqb a b) t u (eq-eqb a b h) c

  pub no_eq : (a ≡ b → ⊥) → Completes make u p q r → Completes make (choose (eqb a b) t u) p q r
  no_eq h c = no (eqb a b) t u (ne_eqb a b h) c

-- what is not coded: a table that reads the value x, and no bits
pub data Fixed {A : Type 0} (t : Codec A) (x : A) : Type 0 where
  fixed : ((bs : Bits) → t.dec bs ≡ got x bs) → Fixed t x

pub by_absent : {A : Type 0} (x : A) → Fixed (absent x) x
unfolding absent
by_absent x = fixed (λ bs. refl)

pub by_inferred : (e i x : ℕ) → Fixed (inferred e i x) x
unfolding inferred
by_inferred e i x = fixed (λ bs. refl)

pub by_inferred_flag : (e i : ℕ) (x : Bool) → Fixed (inferred_flag e i x) x
unfolding inferred_flag
by_inferred_flag e i x = fixed (λ bs. refl)

pub fixed_reads : {A : Type 0} (t : Codec A) {x : A} {p : BitReader} → Fixed t x → Said t.dec p p (Ok x)
unfolding found Moved
fixed_reads t (fixed h) = said refl (record { finds = h _; moves = refl })

module _ {A C : Type 0} (t : Codec A) (x : A) (h : Fixed t x) {p : BitReader} where
  pub settled : {make : A → C} {c : C} → c ≡ make x → Completes make t p p (Ok c)
  settled e = last t (fixed_reads t h) e

  pub settled_on : {B : Type 0} (k : A → Codec B) {make : A × B → C} {q : BitReader} {r : Result C Refusal} → Completes (λ b. make (x, b)) (k x) p q r → Completes make (t ▷ k) p q r
  settled_on k c = on t k (fixed_reads t h) c

module _ {A C : Type 0} (x : A) {p : BitReader} where
  pub nothing : {make : A → C} {c : C} → c ≡ make x → Completes make (absent x) p p (Ok c)
  nothing = settled (absent x) x (by_absent x)

  pub nothing_on : {B : Type 0} (k : A → Codec B) {make : A × B → C} {q : BitReader} {r : Result C Refusal} → Completes (λ b. make (x, b)) (k x) p q r → Completes make (absent x ▷ k) p q r
  nothing_on = settled_on (absent x) x (by_absent x)

module _ {C : Type 0} (e i x : ℕ) {p : BitReader} where
  pub known : {make : ℕ → C} {c : C} → c ≡ make x → Completes make (inferred e i x) p p (Ok c)
  known = settled (inferred e i x) x (by_inferred e i x)

  pub known_on : {B : Type 0} (k : ℕ → Codec B) {make : ℕ × B → C} {q : BitReader} {r : Result C Refusal} → Completes (λ b. make (x, b)) (k x) p q r → Completes make (inferred e i x ▷ k) p q r
  known_on = settled_on (inferred e i x) x (by_inferred e i x)

module _ {C : Type 0} (e i : ℕ) (x : Bool) {p : BitReader} where
  pub known_flag : {make : Bool → C} {c : C} → c ≡ make x → Completes make (inferred_flag e i x) p p (Ok c)
  known_flag = settled (inferred_flag e i x) x (by_inferred_flag e i x)

  pub known_flag_on : {B : Type 0} (k : Bool → Codec B) {make : Bool × B → C} {q : BitReader} {r : Result C Refusal} → Completes (λ b. make (x, b)) (k x) p q r → Completes make (inferred_flag e i x ▷ k) p q r
  known_flag_on = settled_on (inferred_flag e i x) x (by_inferred_flag e i x)

-- the rest, left to a function
pub remade : {A B : Type 0} {t : Codec A} {make make' : A → B} {p q : BitReader} {r : Result B Refusal} → ((a : A) → make' a ≡ make a) → Completes make t p q r → Completes make' t p q r
remade {t = t} {p = p} h (completes (said e g)) = completes (said e (record { finds = through_same (t.dec (from p.bytes.now p.at)) h ∙ g.finds; moves = g.moves }))

-- a check that was made before the first bit was written, and that what is read meets
pub then_checked : {A C : Type 0} (test : A → Bool) (z : Refusal) (t : Codec A) {make : A → C} {p q : BitReader} {r : Result C Refusal}
    → Completes make t p q r → Completes make (checked test z t) p q r
unfolding checked
then_checked test z t (completes (said e g)) = completes (said e (record { finds = g.finds; moves = g.moves }))

-- a struct inside a table, and a group of steps, read in place
module _ {A B C D : Type 0} {p q : BitReader} {r : Result D Refusal} where
  pub struct_on : (to : B → A) (h : A → B) (t : Codec A) (k : B → Codec C) {make : B × C → D}
      → Completes (λ (p : A × C). make (h p.0, p.1)) (t ▷ λ a. k (h a)) p q r → Completes make (via to h t ▷ k) p q r
  unfolding via ◌▷◌
  struct_on to h t k {make} (completes (said e g)) = completes (said e (record { finds = got_same (t.dec (from p.bytes.now p.at)) h (λ b. (k b).dec) make ∙ g.finds; moves = g.moves }))

  pub group_on : (t : Codec A) (u : A → Codec B) (k : A × B → Codec C) {make : (A × B) × C → D}
      → Completes (λ (p : A × (B × C)). make ((p.0, p.1.0), p.1.1)) (t ▷ λ a. u a ▷ λ b. k (a, b)) p q r → Completes make ((t ▷ u) ▷ k) p q r
  unfolding ◌▷◌
  group_on t u k {make} (completes (said e g)) = completes (said e (record { finds = got_assoc (t.dec (from p.bytes.now p.at)) (λ a. (u a).dec) (λ p. (k p).dec) make ∙ g.finds; moves = g.moves }))

-- a value that the rules may forbid, looked at once it is read
module _ {A : Type 0} (test : A → Bool) (z : Refusal) (t : Codec A) {p q : BitReader} where
  pub allowed_yes : {a : A} → Said t.dec p q (Ok a) → test a ≡ true → Said (allowed test z t).dec p q (Ok a)
  unfolding allowed found Moved
  allowed_yes (said e r) h = said e (record { finds = rw (r.finds, h) refl; moves = r.moves })

  pub allowed_no : {a : A} → Said t.dec p q (Ok a) → test a ≡ false → Said (allowed test z t).dec p q (Err z)
  unfolding allowed found Moved
  allowed_no (said e r) h = said e (record { finds = rw (r.finds, h) refl; moves = nil })

  pub allowed-stop : {y : Refusal} {r : Result A Refusal} → Said t.dec p q (Err y) → IsErrAnd r (λ z. z ≡ y) → Said (allowed test z t).dec p q r
  unfolding allowed
  allowed-stop s i = rw (exit i) (stops _ s (λ bs e. rw e refl))

-- What a loop carries: of what d reads from `old` on, the table t is left, from p on, and what it finds goes into `make`.
pub record Left {A B : Type 0} (d : Bits → Got B) (old : BitReader) (t : Codec A) (p : BitReader) (make : A → B) : Type 0 where
  pub rest : {n : BitReader} (r : Result B Refusal) → Completes make t p n r → Said d old n r

pub left_all : {A : Type 0} (t : Codec A) {p : BitReader} → Left t.dec p t p (λ (a : A). a)
left_all t = record { rest = λ r g. start t g }

pub left_remade : {A B : Type 0} {d : Bits → Got B} {old p : BitReader} {t : Codec A} {make make' : A → B}
    → ((a : A) → make a ≡ make' a) → Left d old t p make → Left d old t p make'
left_remade h l = record { rest = λ r s. l.rest r (remade h s) }

-- What a function that reads a table goes by: `#[tactic(auto, using(reader::proofs::Reading::readings), unfolding(..))]`; and for a goal that this
-- leaves, `search steps depth 14 fits 4000` at a return, and `search exits depth 14 fits 4000` at the exit of a `?`.
pub ruleset choices = (yes, no, yes_not, no_not, yes_lt, no_lt, yes_eq, no_eq, select_yes, select_no)

pub ruleset fixings = (nothing, nothing_on, known, known_on, known_flag, known_flag_on)

pub ruleset readings = (start, struct, on, halt, last, last_no, f_of, f_of_wide, choices, fixings)

pub ruleset steps = (start, struct, then_on, then_last, by_dec, by_f, choices, fixings)

pub ruleset exits = (start, struct, then_on, then_halt, then_no, by_dec, by_f, choices, nothing_on, known_on, known_flag_on)

-- what was read fits
pub f_fits : (n e i : ℕ) {v : ℕ} {p q : BitReader} → Said (f n e i).dec p q (Ok v) → v < 2 ^ n
f_fits n e i s = f_small n e i (reads s)
