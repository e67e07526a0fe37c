-- How a function that reads a part meets its contract, and what the contract fixes.
use mathlib.Core.Path.{◌≡◌, refl, sym, ap, subst, ◌∙◌}
use mathlib.Core.List.{List}
use mathlib.Core.Bool.{Bool, true, false, cond}
use Prim.Native.Nat.{ℕ, ◌*◌, ◌<◌, ◌≤◌}
use native.Mathlib.Omega.{arith}
use borrow.Author.Tests.{lt-ltb, le-ltb, ltb-false}
use lib.Dec.{ltb}
use lib.ListN.{length}
use mir.Syntax.{w32}
use mir.Val.{Fits}
use Rattle.std.specs.Prelude.{Result, Ok, Err, IsErrAnd}
use Rattle.bits.specs.Bits.{Bits, from}
use Rattle.bits.specs.Codec.{Codec, Got, got, Nil}
use Rattle.bits.specs.Answers.{found, Moved, Reads}
use Rattle.bits.specs.Written.{Answer}
use Rattle.bits.specs.declared.answer.Refusal.{Refusal}
use Rattle.bits.specs.declared.answer.Refusal.TheVariants.{Ends, Long}
use Rattle.bits.proofs.Places.{end_is, length_from}
use Rattle.reader.specs.declared.BitReader.{BitReader}
use Rattle.reader.specs.Reading.{placed, Said}
use Rattle.reader.proofs.Reading.{reads, exit}
use Rattle.fill.specs.Fills.{Layout, Fills}
use Rattle.fill.proofs.Filling.{filled, stopped}
use Rattle.parts_reader.specs.Reading.{ended, read_part, told, Tells, tells, beginning, Begins, begins}

-- Two answers that the contract allows are equal, and so is what they leave.
pub only : {A M : Type 0} {l : Layout M A} {c : Codec A} {place : ℕ} {xs : List ℕ} {m n o : M} {r s : Answer} → Tells l c place xs m r n → Tells l c place xs m s o → (r ≡ s) × (n ≡ o)
only (tells a b) (tells c d) = (a ∙ sym c, b ∙ sym d)

as_read : {A M : Type 0} {l : Layout M A} {t : Codec A} {place : ℕ} {xs : List ℕ} {m n : M} {r : Answer} {g : Result (A × ℕ) Refusal}
    → read_part t place xs ≡ g → r ≡ (told l m g).answer → n ≡ (told l m g).numbers → Tells l t place xs m r n
as_read {l = l} {m = m} e a b = tells (rw e a) (rw e b)

-- where reading begins
record Begun (r p : BitReader) : Type 0 where
  few : length r.bytes.now ≤ 65536
  inside : r.at ≤ length r.bytes.now * 8
  same : p ≡ r

begun : {r p : BitReader} → Begins r (Ok p) → Begun r p
begun {r} {p} (begins e) = go (ltb 65536 (length r.bytes.now)) refl (ltb (length r.bytes.now * 8) r.at) refl e
  where
    go : (t : Bool) → ltb 65536 (length r.bytes.now) ≡ t → (u : Bool) → ltb (length r.bytes.now * 8) r.at ≡ u → Ok p ≡ cond t (Err Long) (cond u (Err Ends) (Ok r)) → Begun r p
    go true a u b h = cc
    go false a true b h = cc
    go false a false b h = record { few = ltb-false 65536 (length r.bytes.now) a; inside = ltb-false (length r.bytes.now * 8) r.at b; same = cc }

not-begun : {A : Type 0} (t : Codec A) (r : BitReader) {y : Refusal} → Err y ≡ beginning r → read_part t r.at r.bytes.now ≡ Err y
unfolding read_part
not-begun {A} t r {y} e = go (ltb 65536 (length r.bytes.now)) (ltb (length r.bytes.now * 8) r.at) e
  where
    go : (u v : Bool) → Err y ≡ cond u (Err Long) (cond v (Err Ends) (Ok r)) → cond u (Err Long) (cond v (Err Ends) (ended r.bytes.now (t.dec (from r.bytes.now r.at)))) ≡ Err y
    go true v h = let z : Long ≡ y = cc in rw z
    go false true h = let z : Ends ≡ y = cc in rw z
    go false false h = cc

module _ (xs : List ℕ) (place : ℕ) where
  pub inner : {A : Type 0} (t : Codec A) → length xs ≤ 65536 → place ≤ length xs * 8 → read_part t place xs ≡ ended xs (t.dec (from xs place))
  unfolding read_part
  inner t h l = rw (le-ltb 65536 (length xs) h, le-ltb (length xs * 8) place l) refl

  -- the bit behind what was read
  behind : {A : Type 0} (a : A) (q : ℕ) → length xs ≤ 65536 → q ≤ length xs * 8 → ended xs (got a (from xs q)) ≡ Ok (a, q)
  behind a q h l = ap (λ (n : ℕ). Ok (a, n)) (omega (arith, length_from xs q, end_is xs))

  reads_part : {A : Type 0} (t : Codec A) → length xs ≤ 65536 → place ≤ length xs * 8 → (g : Result (A × ℕ) Refusal) → Reads t.dec xs place g → read_part t place xs ≡ g
  unfolding found Moved
  reads_part t h l (Ok (a, q)) r = inner t h l ∙ ap (ended xs) r.finds ∙ behind a q h (omega (arith, r.moves, end_is xs))
  reads_part t h l (Err y) r = inner t h l ∙ ap (ended xs) r.finds

-- what was read, from where it began
reads-begun : {A : Type 0} {d : Bits → Got A} {r p q : BitReader} {g : Result A Refusal} → Begins r (Ok p) → Said d p q g → Reads d r.bytes.now r.at (placed g q.at)
reads-begun {d = d} {q = q} {g} b f = subst (λ (x : BitReader). Reads d x.bytes.now x.at (placed g q.at)) (begun b).same (reads f)

as_part : {A : Type 0} (t : Codec A) {r p q : BitReader} {g : Result A Refusal} → Begins r (Ok p) → Said t.dec p q g → read_part t r.at r.bytes.now ≡ placed g q.at
as_part t {r} {q = q} {g} b f = reads_part r.bytes.now r.at t (begun b).few (begun b).inside (placed g q.at) (reads-begun b f)

pub place_fits : {A M : Type 0} {l : Layout M A} {d : Bits → Got A} {r p q : BitReader} {m n : M} {u : Nil} → Begins r (Ok p) → Fills l d p q (Ok u) m n → Fits w32 q.at
unfolding Moved
place_fits {r = r} b f =
    let e = begun b in
    let s = reads-begun b (filled f).reads in
    record { fits = omega (arith, s.moves, end_is r.bytes.now, e.few, e.inside) }

module _ {A M : Type 0} {l : Layout M A} (t : Codec A) {r : BitReader} {m : M} where
  -- the slice is too long, or the place beyond it
  pub no_begin : {y : Refusal} {a : Answer} → Begins r (Err y) → IsErrAnd a (λ z. z ≡ y) → Tells l t r.at r.bytes.now m a m
  no_begin (begins h) i = as_read (not-begun t r h) (exit i) refl

  module _ {p q : BitReader} (b : Begins r (Ok p)) {n : M} where
    -- the part is refused
    pub no_part : {y : Refusal} {a : Answer} → Fills l t.dec p q (Err y) m n → IsErrAnd a (λ z. z ≡ y) → Tells l t r.at r.bytes.now m a m
    no_part f i = as_read (as_part t b (stopped f)) (exit i) refl

    -- the part was read
    pub all_part : {u : Nil} → Fills l t.dec p q (Ok u) m n → Tells l t r.at r.bytes.now m (Ok q.at) n
    all_part f = let w = filled f in as_read (as_part t b w.reads) refl w.made

-- where reading begins, as the code finds it
module _ (r : BitReader) where
  pub begin_long : 65536 < length r.bytes.now → Begins r (Err Long)
  begin_long h = begins (rw (lt-ltb 65536 (length r.bytes.now) h))

  pub begin_beyond : length r.bytes.now ≤ 65536 → length r.bytes.now * 8 < r.at → Begins r (Err Ends)
  begin_beyond h l = begins (rw (le-ltb 65536 (length r.bytes.now) h, lt-ltb (length r.bytes.now * 8) r.at l))

  pub begin_inside : length r.bytes.now ≤ 65536 → r.at ≤ length r.bytes.now * 8 → Begins r (Ok r)
  begin_inside h l = begins (rw (le-ltb 65536 (length r.bytes.now) h, le-ltb (length r.bytes.now * 8) r.at l))

pub ruleset beginnings = (begin_long, begin_beyond, begin_inside)
