-- How a walk function meets its table: the laws of Walked, by the walk's forms.
use mathlib.Core.Path.{◌≡◌, refl, sym, ap, ◌∙◌}
use mathlib.Core.List.{List, [], append-nil}
use mathlib.Core.Logic.{⊎_elim}
use mathlib.Core.Bool.{Bool, true, false, not, beq}
use Prim.Native.Nat.{ℕ, ◌+◌, ◌^◌, ◌≤◌, ◌<◌}
use native.Mathlib.Omega.{arith}
use lib.ListN.{length, length-append}
use lib.Dec.{ltb, eqb, leb}
use mir.Val.{bool_byte}
use borrow.Author.Tests.{lt-ltb, le-ltb, le-leb, lt-leb, eq-eqb, ne_eqb, not-true, not-false}
use Rattle.std.specs.Prelude.{Result, Ok, Err}
use Rattle.std.specs.Result.{IsErrAnd, result_from_control_flow}
use Rattle.std.proofs.Common.{Continue, Break}
use Rattle.bits.specs.Bits.{Bits, to_bits, bit_at, set_bit, put, limit}
use Rattle.bits.specs.Walk.{Walk, none, field, mark, demand, refuse, either, ◌⊕◌, End, done, refused, Out, wrote, after, join, run}
use Rattle.bits.specs.Codec.{same_flag}
use Rattle.bits.specs.declared.answer.Refusal.{Refusal}
use Rattle.bits.proofs.Passing.{taken, broke, passed}
use Rattle.bits.proofs.Numbers.{length-to_bits}
use Rattle.bits.proofs.Leaves.{field_fits}
use Rattle.bits.proofs.Storing.{put_append, put_far, length-put, below_or}
use Rattle.writer.specs.Walked.{forward, answer, Walked, walked}
use Rattle.writer.specs.declared.BitWriter.{BitWriter}

abbrev pub Answer : Type 0
Answer = Result Unit Refusal

-- what the equations say
module _ {w : Walk} {a b : BitWriter} {s : Answer} where
  pub answered : Walked w a b s → s ≡ answer (run w).end
  answered (walked e p q g) = e

  pub place : Walked w a b s → b.at ≡ forward a.at (length (run w).bits)
  place (walked e p q g) = p

  pub bytes : Walked w a b s → b.out.now ≡ put a.out.now a.at (run w).bits
  bytes (walked e p q g) = q

  pub same_slice : Walked w a b s → b.out.ghost_name ≡ a.out.ghost_name
  same_slice (walked e p q g) = g

  -- what its lender finds
  pub lent : {n : ℕ} → Walked w a b s → (g : (x : List ℕ) × ((length x ≡ n) × (a.out.ghost_name ≡ b.out.ghost_name → x ≡ b.out.now))) → g.0 ≡ b.out.now
  lent (walked e p q h) g = g.1.1 (sym h)

  -- a walk keeps the length
  pub kept : Walked w a b s → length b.out.now ≡ length a.out.now
  kept (walked e p q g) = ap length q ∙ length-put a.out.now _ _

-- walks that come to the same
pub as_run : {v w : Walk} {a b : BitWriter} {s : Answer} → run v ≡ run w → Walked v a b s → Walked w a b s
as_run {a = a} h (walked e p q g) =
    walked (e ∙ ap (λ (o : Out). answer o.end) h) (p ∙ ap (λ (o : Out). forward a.at (length o.bits)) h) (q ∙ ap (λ (o : Out). put a.out.now a.at o.bits) h) g

pub ok-err : {r : Refusal} → ◌≡◌ {A = Answer} (Ok tt) (Err r) → ⊥
ok-err h = cc

pub forward-zero : (at : ℕ) → forward at 0 ≡ at
forward-zero at = omega arith

forward-forward : (at n m : ℕ) → forward (forward at n) m ≡ forward at (n + m)
forward-forward at n m = omega arith

put-forward : (xs : List ℕ) (at n : ℕ) (bs : Bits) → put xs (forward at n) bs ≡ put xs (at + n) bs
put-forward xs at n bs = ⊎_elim near far (below_or (at + n) limit)
  where
    near : at + n < limit → put xs (forward at n) bs ≡ put xs (at + n) bs
    near h = ap (λ (k : ℕ). put xs k bs) (omega arith)

    far : limit ≤ at + n → put xs (forward at n) bs ≡ put xs (at + n) bs
    far h = put_far xs (forward at n) bs (omega arith) ∙ sym (put_far xs (at + n) bs h)

-- one walk behind another: what both answer, and where they come to
abbrev beyond : (o p : Out) (at : ℕ) (xs : List ℕ) → Out → Answer → ℕ → List ℕ → Type 0
beyond o p at xs q s k ys = (s ≡ answer q.end) × (k ≡ forward at (length q.bits)) × (ys ≡ put xs at q.bits)

go_on : (o p : Out) (t : Answer) (at k n : ℕ) (xs ys zs : List ℕ) → Ok tt ≡ answer o.end → k ≡ forward at (length o.bits) → ys ≡ put xs at o.bits
    → t ≡ answer p.end → n ≡ forward k (length p.bits) → zs ≡ put ys k p.bits → beyond o p at xs (join o p) t n zs
unfolding join
go_on o p t at k n xs ys zs e a b f g h = go o.end e
  where
    go : (d : End) → Ok tt ≡ answer d → beyond o p at xs (after d o.bits p) t n zs
    go done _ = (f, g ∙ rw (a, length-append o.bits p.bits) (forward-forward at (length o.bits) (length p.bits)), h ∙ rw (b, a, put_append) (put-forward _ _ _ _))
    go (refused r) q = absurd (ok-err q)

stay : (o p : Out) (s : Answer) (r : Refusal) (at k : ℕ) (xs ys : List ℕ) → s ≡ answer o.end → s ≡ Err r → k ≡ forward at (length o.bits) → ys ≡ put xs at o.bits
    → beyond o p at xs (join o p) s k ys
unfolding join
stay o p s r at k xs ys e q a b = go o.end e
  where
    go : (d : End) → s ≡ answer d → beyond o p at xs (after d o.bits p) s k ys
    go done h = absurd (ok-err (sym h ∙ q))
    go (refused r) h = (h, a, b)

module _ {v w : Walk} {a b : BitWriter} {u : Answer} where
  -- a step that was passed, and what comes after it
  pub hop : {c : BitWriter} {t : Answer} → Walked v a b u → u ≡ Ok tt → Walked w b c t → Walked (v ⊕ w) a c t
  unfolding run
  hop {c} {t} (walked e p q g) k (walked f x y z) =
      let h = go_on (run v) (run w) t a.at b.at c.at a.out.now b.out.now c.out.now (sym k ∙ e) p q f x y in
      walked h.0 h.1 h.2 (z ∙ g)

  -- a step that is refused ends the walk
  pub halt : {r : Refusal} → Walked v a b u → u ≡ Err r → Walked (v ⊕ w) a b u
  unfolding run
  halt {r} (walked e p q g) k =
      let h = stay (run v) (run w) u r a.at b.at a.out.now b.out.now e k p q in
      walked h.0 h.1 h.2 g

  -- a branch
  pub yes : {t : Bool} → t ≡ true → Walked v a b u → Walked (either t v w) a b u
  unfolding run
  yes h g = as_run (rw h) g

  pub no : {t : Bool} → t ≡ false → Walked w a b u → Walked (either t v w) a b u
  unfolding run
  no h g = as_run (rw h) g

-- the same at a `?`
module _ {v : Walk} {a b : BitWriter} {u : Answer} {k : _} where
  pub on : {w : Walk} {c : BitWriter} {t : Answer} {x : Unit {0}} → Walked v a b u → u ≡ result_from_control_flow k → k ≡ Continue x → Walked w b c t → Walked (v ⊕ w) a c t
  on g e h y = hop g (taken k e h) y

  pub off : {w : Walk} {r : Answer} {d : _} → Walked v a b u → u ≡ result_from_control_flow k → k ≡ Break d → IsErrAnd r (λ y. y ≡ d.0) → Walked (v ⊕ w) a b r
  off {w} {r} {d} g e h z =
      let q = broke k e h in
      let p : u ≡ r = q ∙ sym (passed d.0 r z) in
      rw p at (halt {w = w} g q)

-- a refusal that the code makes
pub halt_here : {v w : Walk} {a b : BitWriter} {r : Refusal} → Walked v a b (Err r) → Walked (v ⊕ w) a b (Err r)
halt_here g = halt g refl

pub nothing : {a : BitWriter} → Walked none a a (Ok tt)
unfolding run put
nothing {a} = walked refl (sym (forward-zero a.at)) refl refl

pub refusing : {r : Refusal} {a : BitWriter} → Walked (refuse r) a a (Err r)
unfolding run put
refusing {a = a} = walked refl (sym (forward-zero a.at)) refl refl

-- what is demanded and holds, and what does not
module _ {a : BitWriter} {t : Bool} {r : Refusal} where
  pub held : t ≡ true → Walked (demand t r) a a (Ok tt)
  unfolding run
  held h = as_run (rw h) nothing

  pub broken : t ≡ false → Walked (demand t r) a a (Err r)
  unfolding run
  broken h = as_run (rw h) (refusing {r = r})

-- a check that is passed, and what comes after it
pub held_then : {w : Walk} {a b : BitWriter} {u : Answer} {t : Bool} {r : Refusal} → t ≡ true → Walked w a b u → Walked (demand t r ⊕ w) a b u
held_then h g = hop (held h) refl g

module _ (m k : ℕ) {w : Walk} {a b : BitWriter} {u : Answer} {r : Refusal} where
  pub held_eq_then : m ≡ k → Walked w a b u → Walked (demand (eqb m k) r ⊕ w) a b u
  held_eq_then h g = held_then (eq-eqb m k h) g

  pub held_le_then : m ≤ k → Walked w a b u → Walked (demand (leb m k) r ⊕ w) a b u
  held_le_then h g = held_then (le-leb m k h) g

-- the same of a negated test
flip : (t : Bool) → t ≡ false → not t ≡ true
flip t h = rw h

flop : (t : Bool) → t ≡ true → not t ≡ false
flop t h = rw h

module _ {a : BitWriter} {t : Bool} {r : Refusal} where
  -- the code tests t, the table not t
  pub absent : t ≡ false → Walked (demand (not t) r) a a (Ok tt)
  absent h = held (flip t h)

  pub present : t ≡ true → Walked (demand (not t) r) a a (Err r)
  present h = broken (flop t h)

  pub absent_then : {w : Walk} {b : BitWriter} {u : Answer} → t ≡ false → Walked w a b u → Walked (demand (not t) r ⊕ w) a b u
  absent_then h g = held_then (flip t h) g

module _ {a : BitWriter} (t : Bool) {r : Refusal} where
  -- the code tests not t, the table t
  pub held-not : not t ≡ false → Walked (demand t r) a a (Ok tt)
  held-not h = held (not-false t h)

  pub broken_not : not t ≡ true → Walked (demand t r) a a (Err r)
  broken_not h = broken (not-true t h)

  pub held-not_then : {w : Walk} {b : BitWriter} {u : Answer} → not t ≡ false → Walked w a b u → Walked (demand t r ⊕ w) a b u
  held-not_then h g = held_then (not-false t h) g

-- the same of a test on numbers
module _ (m k : ℕ) {a : BitWriter} {r : Refusal} where
  pub held_eq : m ≡ k → Walked (demand (eqb m k) r) a a (Ok tt)
  held_eq h = held (eq-eqb m k h)

  pub broken_eq : (m ≡ k → ⊥) → Walked (demand (eqb m k) r) a a (Err r)
  broken_eq h = broken (ne_eqb m k h)

  pub held_le : m ≤ k → Walked (demand (leb m k) r) a a (Ok tt)
  held_le h = held (le-leb m k h)

  pub broken_le : k < m → Walked (demand (leb m k) r) a a (Err r)
  broken_le h = broken (lt-leb m k h)

module _ (m n : ℕ) {v w : Walk} {a b : BitWriter} {u : Answer} where
  pub yes_lt : m < n → Walked v a b u → Walked (either (ltb m n) v w) a b u
  yes_lt h q = yes (lt-ltb m n h) q

  pub no_lt : n ≤ m → Walked w a b u → Walked (either (ltb m n) v w) a b u
  no_lt h q = no (le-ltb m n h) q

  pub yes_eq : m ≡ n → Walked v a b u → Walked (either (eqb m n) v w) a b u
  yes_eq h q = yes (eq-eqb m n h) q

  pub no_eq : (m ≡ n → ⊥) → Walked w a b u → Walked (either (eqb m n) v w) a b u
  no_eq h q = no (ne_eqb m n h) q

-- a test that a function makes, with the answer s
module _ {v w : Walk} {a b : BitWriter} {u : Answer} {s t : Bool} where
  pub yes_by : s ≡ t → s ≡ true → Walked v a b u → Walked (either t v w) a b u
  yes_by p h g = yes (sym p ∙ h) g

  pub no_by : s ≡ t → s ≡ false → Walked w a b u → Walked (either t v w) a b u
  no_by p h g = no (sym p ∙ h) g

-- One field
module _ {a b : BitWriter} where
  pub field-done : (n v : ℕ) (r : Refusal) (t : Bool) → t ≡ ltb v (2 ^ n) → t ≡ true → b.out.now ≡ put a.out.now a.at (to_bits n v) → b.at ≡ forward a.at n
      → b.out.ghost_name ≡ a.out.ghost_name → Walked (field n v r) a b (Ok tt)
  unfolding run
  field-done n v r t q h y x g = walked (rw (← q, h) refl) (rw (← q, h) (rw length-to_bits x)) (rw (← q, h) y) g

pub field-refused : {a : BitWriter} (n v : ℕ) (r : Refusal) (t : Bool) → t ≡ ltb v (2 ^ n) → t ≡ false → Walked (field n v r) a a (Err r)
unfolding run put
field-refused {a} n v r t q h = walked (rw (← q, h) refl) (rw (← q, h) (sym (forward-zero a.at))) (rw (← q, h) refl) refl

pub mark-done : {a b : BitWriter} (t : Bool) → b.out.now ≡ set_bit a.out.now a.at t → b.at ≡ forward a.at 1 → b.out.ghost_name ≡ a.out.ghost_name → Walked (mark t) a b (Ok tt)
unfolding run put
mark-done t y x g = walked refl x y g

-- a flag is a field of one bit
mark-run : (t : Bool) (r : Refusal) → run (field 1 (bool_byte t) r) ≡ run (mark t)
unfolding run to_bits bit_at
mark-run true r = refl
mark-run false r = refl

pub mark-field : {t : Bool} {r : Refusal} {a b : BitWriter} {u : Answer} → Walked (field 1 (bool_byte t) r) a b u → Walked (mark t) a b u
mark-field {t} {r} g = as_run (mark-run t r) g

-- a zero is a flag that is not set
pub zero-mark : {r : Refusal} {a b : BitWriter} {u : Answer} → Walked (mark false) a b u → Walked (field 1 0 r) a b u
zero-mark {r} g = as_run (sym (mark-run false r)) g

-- One answer, and one content of the bytes
pub only : {w : Walk} {a b c : BitWriter} {s t : Answer} → Walked w a b s → Walked w a c t → (s ≡ t) × (b.out.now ≡ c.out.now)
only (walked e p q g) (walked f x y h) = (e ∙ sym f, q ∙ sym y)

-- A walk that went on has written its bits; a field, a number that it holds
pub went : {w : Walk} {a b : BitWriter} {s : Answer} → Walked w a b s → s ≡ Ok tt → run w ≡ wrote (run w).bits
went {w} (walked p x y g) e = go (run w).end refl
  where
    go : (k : End) → (run w).end ≡ k → run w ≡ wrote (run w).bits
    go done h = λ i. record { bits = (run w).bits; end = h i }
    go (refused r) h = absurd (ok-err (sym e ∙ p ∙ ap answer h))

pub field_went : {n v : ℕ} {r : Refusal} {a b : BitWriter} {s : Answer} → Walked (field n v r) a b s → s ≡ Ok tt → v < 2 ^ n
field_went {n} {v} {r} g e = field_fits n v r _ (went g e)

-- What a loop carries: of the walk T from a, p is left, from b
pub record Left (T : Walk) (a : BitWriter) (p : Walk) (b : BitWriter) : Type 0 where
  pub rest : (c : BitWriter) (s : Answer) → Walked p b c s → Walked T a c s

pub left_all : {T p : Walk} (a : BitWriter) → p ≡ T → Left T a p a
left_all a q = record { rest = λ c s w. rw q at w }

module _ {T p : Walk} {a b : BitWriter} (l : Left T a p b) where
  module _ {v : Walk} {c : BitWriter} {s : Answer} {k : _} (g : Walked v b c s) (e : s ≡ result_from_control_flow k) where
    pub left_more : {w : Walk} {x : Unit {0}} → run (v ⊕ w) ≡ run p → k ≡ Continue x → Left T a w c
    left_more q h = record { rest = λ d t y. l.rest d t (as_run q (on g e h y)) }

    pub left_halt : (w : Walk) {r : Answer} {d : _} → run (v ⊕ w) ≡ run p → k ≡ Break d → IsErrAnd r (λ y. y ≡ d.0) → Walked T a c r
    left_halt w {r} q h z = l.rest c r (as_run q (off {w = w} g e h z))

  pub left_none : run p ≡ wrote [] → Walked T a b (Ok tt)
  unfolding run
  left_none q = l.rest b (Ok tt) (as_run (sym q) (nothing {a = b}))

-- what is not there
pub before_none : {w : Walk} {a b : BitWriter} {u : Answer} → Walked w a b u → Walked (none ⊕ w) a b u
before_none g = hop nothing refl g

pub after_none : {w : Walk} {a b : BitWriter} {u : Answer} → Walked w a b u → Walked (w ⊕ none) a b u
unfolding run join
after_none {w} g = as_run (go (run w).end refl) g
  where
    go : (e : End) → (run w).end ≡ e → run w ≡ after e (run w).bits (wrote [])
    go done h = λ i. record { bits = sym (append-nil (run w).bits) i; end = h i }
    go (refused r) h = λ i. record { bits = (run w).bits; end = h i }

-- a demand on what a function answers
pub demand_by : {s t : Bool} {r : Refusal} {a b : BitWriter} {u : Answer} → s ≡ t → Walked (demand s r) a b u → Walked (demand t r) a b u
demand_by {r = r} h g = as_run (ap (λ (t : Bool). run (demand t r)) h) g

-- two flags, compared
same-beq : (x y : Bool) → beq x y ≡ same_flag x y
same-beq true true = refl
same-beq true false = refl
same-beq false true = refl
same-beq false false = refl

pub as_same : (x y : Bool) {r : Refusal} {a b : BitWriter} {u : Answer} → Walked (demand (beq x y) r) a b u → Walked (demand (same_flag x y) r) a b u
as_same x y {r} g = demand_by (same-beq x y) g

-- A walk function of up to four steps: `search walk depth 14`
pub ruleset walk = (on, off, yes, no, nothing, held, broken, absent, present, held_eq, broken_eq, held_le, broken_le, yes_lt, no_lt, yes_eq, no_eq, mark-field, halt_here, held_then, absent_then, held_eq_then, held_le_then, held-not, broken_not, held-not_then, before_none, after_none)

-- with tests that functions make
pub ruleset walk_by = (walk, yes_by, no_by, demand_by)
