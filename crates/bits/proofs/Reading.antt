-- What reading finds: one answer only; and the laws of finding, one part behind another.
use mathlib.Core.Path.{◌≡◌, refl, sym, ap, ◌∙◌}
use mathlib.Core.List.{List}
use Prim.Native.Nat.{ℕ, ◌-◌, max}
use native.Mathlib.Omega.{arith}
use lib.ListN.{length}
use Rattle.std.specs.Prelude.{Result, Ok, Err}
use Rattle.bits.specs.Bits.{Bits, from, end}
use Rattle.bits.specs.Codec.{Got, got, stop, and_then}
use Rattle.bits.specs.Answers.{found, Moved, Reads}
use Rattle.bits.specs.declared.answer.Refusal.{Refusal}
use Rattle.bits.proofs.Laws.{stop-got, got-value, got-rest}
use Rattle.bits.proofs.Places.{length_from}

-- One answer: two that a contract allows are equal.
same_place : (xs : List ℕ) (p q : ℕ) → from xs p ≡ from xs q → max p (end xs) ≡ max q (end xs) → p ≡ q
same_place xs p q e m = let l : end xs - p ≡ end xs - q = sym (length_from xs p) ∙ ap length e ∙ length_from xs q in omega arith

stop-same : {A : Type 0} {r s : Refusal} → ◌≡◌ {A = Got A} (stop r) (stop s) → r ≡ s
stop-same h = cc

pub reads_only : {A : Type 0} {d : Bits → Got A} {xs : List ℕ} {p : ℕ} (r s : Result (A × ℕ) Refusal) → Reads d xs p r → Reads d xs p s → r ≡ s
unfolding found Moved
reads_only {xs = xs} (Ok (a, p)) (Ok (b, q)) r s =
    let e = sym r.finds ∙ s.finds in
    let w : p ≡ q = same_place xs p q (got-rest e) (r.moves ∙ sym s.moves) in
    λ i. Ok (got-value e i, w i)
reads_only (Ok (a, p)) (Err y) r s = absurd (stop-got (sym s.finds ∙ r.finds))
reads_only (Err y) (Ok (b, q)) r s = absurd (stop-got (sym r.finds ∙ s.finds))
reads_only {A} (Err y) (Err z) r s = ap Err (stop-same {A = A} (sym r.finds ∙ s.finds))

-- what is found, made into another value
abbrev pub through : {A B : Type 0} → (A → B) → Got A → Got B
through h x = and_then x (λ a rest. got (h a) rest)

pub fuse : {A B C : Type 0} (x : Got A) (h : A → B) (make : B → C) → through make (through h x) ≡ through (λ a. make (h a)) x
fuse (got a rest) h make = refl
fuse (stop r) h make = refl

pub whole : {A : Type 0} (x : Got A) → through (λ (a : A). a) x ≡ x
whole (got a rest) = refl
whole (stop r) = refl

pub through_same : {A B : Type 0} (x : Got A) {make make' : A → B} → ((a : A) → make a ≡ make' a) → through make x ≡ through make' x
through_same (got a rest) h = ap (λ (b : _). got b rest) (h a)
through_same (stop r) h = refl

-- a struct inside a table, and a group of steps, read in place
abbrev pub both : {A B : Type 0} → A → Got B → Got (A × B)
both a y = and_then y (λ b end. got (a, b) end)

pub got_same : {A B C D : Type 0} (x : Got A) (h : A → B) (k : B → Bits → Got C) (make : B × C → D)
    → through make (and_then (through h x) (λ b rest. both b (k b rest))) ≡ through (λ (p : A × C). make (h p.0, p.1)) (and_then x (λ a rest. both a (k (h a) rest)))
got_same {A} {C = C} (got a rest) h k make = go (k (h a) rest)
  where
    go : (y : Got C) → through make (both (h a) y) ≡ through (λ (p : A × C). make (h p.0, p.1)) (both a y)
    go (got c end) = refl
    go (stop r) = refl
got_same (stop r) h k make = refl

pub got_assoc : {A B C D : Type 0} (x : Got A) (u : A → Bits → Got B) (k : A × B → Bits → Got C) (make : (A × B) × C → D)
    → through make (and_then (and_then x (λ a rest. both a (u a rest))) (λ p rest. both p (k p rest)))
    ≡ through (λ (p : A × (B × C)). make ((p.0, p.1.0), p.1.1)) (and_then x (λ a rest. both a (and_then (u a rest) (λ b end. both b (k (a, b) end)))))
got_assoc (stop r) u k make = refl
got_assoc {A} {B} {C} (got a rest) u k make = go (u a rest)
  where
    on_two : (b : B) (y : Got C) → through make (both (a, b) y) ≡ through (λ (p : A × (B × C)). make ((p.0, p.1.0), p.1.1)) (both a (both b y))
    on_two b (got c end) = refl
    on_two b (stop r) = refl

    go : (y : Got B)
        → through make (and_then (both a y) (λ p rest. both p (k p rest))) ≡ through (λ (p : A × (B × C)). make ((p.0, p.1.0), p.1.1)) (both a (and_then y (λ b end. both b (k (a, b) end))))
    go (got b end) = on_two b (k (a, b) end)
    go (stop r) = refl
