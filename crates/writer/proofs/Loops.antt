-- How a loop over an array's places meets the array's table.
use mathlib.Core.Path.{◌≡◌, refl, sym, ◌∙◌, ap}
use mathlib.Core.List.{List, [], ◌∷◌}
use Prim.Native.Nat.{ℕ, zero, suc, ◌+◌, ◌-◌, ◌<◌, ◌≤◌}
use native.Mathlib.Omega.{arith}
use lib.ListN.{drop, get_or}
use borrow.Author.Tests.{lt-ltb, le-ltb}
use Rattle.std.specs.Prelude.{Ok}
use Rattle.std.specs.Result.{IsErrAnd, result_from_control_flow}
use Rattle.std.proofs.Common.{Continue, Break}
use Rattle.bits.specs.Walk.{Walk, none, ◌⊕◌, wrote, join, run}
use Rattle.bits.specs.Codec.{Codec, absent, choose, via, array, uncons, ◌▷◌}
use Rattle.writer.specs.Walked.{Walked}
use Rattle.writer.specs.declared.BitWriter.{BitWriter}
use Rattle.writer.proofs.Walking.{Answer, Left, left_all, left_more, left_halt, left_none, as_run, after_none}

uncons-drop : {A : Type 0} (z : A) (i : ℕ) (vs : List A) → uncons z (drop i vs) ≡ (get_or vs i z, drop (suc i) vs)
uncons-drop z zero [] = refl
uncons-drop z zero (v ∷ vs) = refl
uncons-drop z (suc i) [] = refl
uncons-drop z (suc i) (v ∷ vs) = uncons-drop z i vs

module _ {A : Type 0} (z : A) (item : ℕ → Codec A) (n : ℕ) (vs : List A) where
  -- a place that is coded, and the others
  array_at : (m i : ℕ) → i < m → i < n → run ((item i).enc (get_or vs i z) ⊕ (array z item (m - (i + 1)) (i + 1) n).enc (drop (i + 1) vs)) ≡ run ((array z item (m - i) i n).enc (drop i vs))
  unfolding array via ◌▷◌ choose run
  array_at m i l h =
      let j : m - i ≡ suc (m - (i + 1)) = omega arith in
      let k : i + 1 ≡ suc i = omega arith in
      rw (j, uncons-drop z i vs, lt-ltb i n h, k)

-- places that are not
pub array-none : {A : Type 0} (z : A) (item : ℕ → Codec A) (n m i : ℕ) (vs : List A) → n ≤ i → run ((array z item m i n).enc vs) ≡ wrote []
unfolding array via ◌▷◌ choose absent run join
array-none z item n zero i vs h = refl
array-none z item n (suc m) i vs h = rw (le-ltb i n h, array-none z item n m (suc i) (uncons z vs).1 (omega arith))

-- Of the walk T, the places of vs from i on are left.
pub record Each {A : Type 0} (T : Walk) (a : BitWriter) (z : A) (item : ℕ → Codec A) (m n : ℕ) (vs : List A) (i : ℕ) (b : BitWriter) : Type 0 where
  pub left : Left T a ((array z item (m - i) i n).enc (drop i vs)) b
  pub low : i ≤ n
  pub high : n ≤ m

pub each_start : {A : Type 0} {z : A} {item : ℕ → Codec A} {m n : ℕ} {vs : List A} {a : BitWriter} → n ≤ m → Each ((array z item m 0 n).enc vs) a z item m n vs 0 a
each_start {m = m} h = let e : m - 0 ≡ m = omega arith in record { left = left_all _ (rw e); low = omega arith; high = h }

module _ {A : Type 0} {T : Walk} {a b c : BitWriter} {z : A} {item : ℕ → Codec A} {m n i : ℕ} {vs : List A} {s : Answer} {k : _} (g : Each T a z item m n vs i b) (l : i < n) (w : Walked ((item i).enc (get_or vs i z)) b c s) (e : s ≡ result_from_control_flow k) where
  pub each_more : {x : Unit {0}} → k ≡ Continue x → Each T a z item m n vs (i + 1) c
  each_more h = record { left = left_more g.left w e (array_at z item n vs m i (omega (arith, g.high)) l) h; low = omega arith; high = g.high }

  pub each_halt : {r : Answer} {d : _} → k ≡ Break d → IsErrAnd r (λ y. y ≡ d.0) → Walked T a c r
  each_halt h y = left_halt g.left w e _ (array_at z item n vs m i (omega (arith, g.high)) l) h y

pub each-done : {A : Type 0} {T : Walk} {a b : BitWriter} {z : A} {item : ℕ → Codec A} {m n i : ℕ} {vs : List A} → Each T a z item m n vs i b → n ≤ i → Walked T a b (Ok tt)
each-done {z = z} {item} {m} {n} {i} {vs} g h = left_none g.left (array-none z item n (m - i) i (drop i vs) h)

-- an array of which one place is coded
pub array_one : {A : Type 0} (z : A) (item : ℕ → Codec A) (m : ℕ) (vs : List A) → 0 < m → run ((item 0).enc (get_or vs 0 z) ⊕ none) ≡ run ((array z item m 0 1).enc vs)
unfolding run
array_one z item m vs h =
    let e : m - 0 ≡ m = omega arith in
    ap (join (run ((item 0).enc (get_or vs 0 z)))) (sym (array-none z item 1 (m - 1) 1 (drop 1 vs) (omega arith))) ∙ (rw e at (array_at z item 1 vs m 0 h (omega arith)))

pub array_first : {A : Type 0} (z : A) (item : ℕ → Codec A) (m : ℕ) (vs : List A) {a b : BitWriter} {s : Answer} → 0 < m → Walked ((item 0).enc (get_or vs 0 z)) a b s → Walked ((array z item m 0 1).enc vs) a b s
array_first z item m vs h g = as_run (array_one z item m vs h) (after_none g)
