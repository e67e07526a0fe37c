-- Room for a part, by the bits of its walk.
use mathlib.Core.Path.{◌≡◌, refl, ap, ◌∙◌}
use mathlib.Core.List.{List}
use mathlib.Core.Bool.{Bool, true, false, cond}
use Prim.Native.Nat.{ℕ, ◌+◌, ◌*◌, ◌≤◌}
use native.Mathlib.Omega.{arith}
use borrow.Author.Tests.{le-ltb}
use lib.Dec.{ltb}
use lib.ListN.{length}
use Rattle.bits.specs.Walk.{Walk, End, done, refused, run}
use Rattle.bits.specs.Written.{keep, whole_bytes}
use Rattle.std.specs.Prelude.{Ok, Err}
use Rattle.bits.specs.declared.answer.Refusal.{Refusal}
use Rattle.bits.specs.declared.answer.Refusal.TheVariants.{Short, Long}
use Rattle.bits.proofs.Counting.{Few, Takes, unshort, never_short}
use Rattle.parts.specs.Written.{after_walk, written, Writes, writes}
use Rattle.parts.proofs.Writing as part
use Rattle.room.specs.Enough.{EnoughBits}

short_not_done : (t : Bool) (xs ys : List ℕ) (n : ℕ) {m : ℕ} → Err (Short m) ≡ (cond t (keep Long xs) (record { answer = Ok n; bytes = ys })).answer → ⊥
short_not_done true xs ys n h = let z : ◌≡◌ {A = ℕ} 0 1 = cc in omega arith
short_not_done false xs ys n h = let z : ◌≡◌ {A = ℕ} 0 1 = cc in omega arith

short_is_own : (t : Bool) (xs : List ℕ) {r : Refusal} {m : ℕ} → Err (Short m) ≡ (cond t (keep Long xs) (keep r xs)).answer → r ≡ Short m
short_is_own true xs h = let z : ◌≡◌ {A = ℕ} 0 1 = cc in absurd (omega arith)
short_is_own false xs h = cc

module _ {R : Type 0} (w : R → Walk) (n : ℕ) (F : (r : R) → Few n (w r)) (U : (r : R) → unshort (w r) ≡ true) where
  most : (r : R) (place : ℕ) (xs ys : List ℕ) (m : ℕ) → Writes (w r) place xs (Ok m) ys → m ≤ place + n
  most r place xs ys m g = let room = part.room (w r) place xs ys m g in omega (arith, room.place_is, (F r).most _ room.walked)

  short : (r : R) (place : ℕ) (xs ys : List ℕ) (m : ℕ) → place + n ≤ length xs * 8 → Writes (w r) place xs (Err (Short m)) ys → ⊥
  unfolding written
  short r place xs ys m l (writes p q) = go (run (w r)).end refl p
    where
      go : (k : End) → (run (w r)).end ≡ k → Err (Short m) ≡ (cond (ltb 65536 (length xs)) (keep Long xs) (after_walk k (run (w r)).bits place xs)).answer → ⊥
      go done e h =
          let bits = length (run (w r)).bits in
          let fits : place + bits ≤ length xs * 8 = omega (arith, (F r).most _ (λ i. record { bits = (run (w r)).bits; end = e i })) in
          short_not_done (ltb 65536 (length xs)) xs _ (place + bits) (rw (le-ltb (length xs * 8) (place + bits) fits) at h)
      go (refused q) e h = never_short (w r) (U r) (e ∙ ap refused (short_is_own (ltb 65536 (length xs)) xs h))

  pub enough_bits : (longest : R) → Takes n (w longest) → EnoughBits w n longest
  unfolding written
  enough_bits longest T = record { most = most; never_short = short; reached = reached }
    where
      either_way : (t : Bool) (r : Refusal) (k : ℕ) (xs ys : List ℕ) → (cond t (keep r xs) (record { answer = Ok k; bytes = ys })).answer ≡ cond t (Err r) (Ok k)
      either_way true r k xs ys = refl
      either_way false r k xs ys = refl

      reached : (place : ℕ) (xs : List ℕ) → length xs ≤ 65536
          → (written (w longest) place xs).answer ≡ cond (ltb (length xs * 8) (place + n)) (Err (Short (whole_bytes (place + n)))) (Ok (place + n))
      reached place xs l = rw (le-ltb 65536 (length xs) l, T.ends, T.bits) (either_way (ltb (length xs * 8) (place + n)) (Short (whole_bytes (place + n))) (place + n) xs _)
