-- A loop over all the places of an array, of which the first are coded.
use mathlib.Core.Path.{◌≡◌, refl, sym, ◌∙◌}
use mathlib.Core.List.{List}
use Prim.Native.Nat.{ℕ, zero, suc, ◌+◌, ◌<◌, ◌≤◌, min}
use mathlib.Core.Logic.{⊎_elim}
use Rattle.bits.proofs.Storing.{below_or}
use native.Mathlib.Omega.{arith}
use lib.Dec.{ltb}
use borrow.Author.Tests.{lt-ltb, le-ltb}
use Rattle.bits.specs.Codec.{Codec, absent, choose, via, array, ◌▷◌}
use Rattle.bits.specs.Codec.{Nil}
use Rattle.bits.specs.declared.answer.Refusal.{Refusal}
use Rattle.std.specs.Prelude.{Result}
use Rattle.reader.specs.declared.BitReader.{BitReader}
use Rattle.fill.specs.Fills.{Layout, Fills}

-- the same array as one of which every item is looked at: it is coded below n, and else z
module _ {A : Type 0} (z : A) (item : ℕ → Codec A) (n : ℕ) where
  abbrev pub below : ℕ → Codec A
  below i = choose (ltb i n) (item i) (absent z)

  all_places : (k i m : ℕ) → k + i ≤ m → (array z below k i m).dec ≡ (array z item k i n).dec
  unfolding array via ◌▷◌ choose absent
  all_places zero i m h = refl
  all_places (suc k) i m h = rw (lt-ltb i m (omega arith), all_places k (suc i) m (omega arith)) refl

  pub all_filled : (k : ℕ) {M : Type 0} {l : Layout M (List A)} {p q : BitReader} {g : Result Nil Refusal} {m o : M} → Fills l (array z below k 0 k).dec p q g m o → Fills l (array z item k 0 n).dec p q g m o
  all_filled k r = rw (all_places k 0 k (omega arith)) at r

  -- an array codes no more items than it has
  most_places : (k i : ℕ) → (array z item k i (min n (i + k))).dec ≡ (array z item k i n).dec
  unfolding array via ◌▷◌ choose absent
  most_places zero i = refl
  most_places (suc k) i =
      let e : i + suc k ≡ suc i + k = omega arith in
      let t : ltb i (min n (suc i + k)) ≡ ltb i n = ⊎_elim (λ (l : i < n). lt-ltb i (min n (suc i + k)) (omega arith) ∙ sym (lt-ltb i n l)) (λ (l : n ≤ i). le-ltb i (min n (suc i + k)) (omega arith) ∙ sym (le-ltb i n l)) (below_or i n) in
      rw (e, t, most_places k (suc i)) refl

  pub most_filled : (k : ℕ) {M : Type 0} {l : Layout M (List A)} {p q : BitReader} {g : Result Nil Refusal} {m o : M} → Fills l (array z item k 0 (min n k)).dec p q g m o → Fills l (array z item k 0 n).dec p q g m o
  most_filled k r = let e : 0 + k ≡ k = omega arith in let w : (array z item k 0 (min n k)).dec ≡ (array z item k 0 n).dec = rw e at (most_places k 0) in rw w at r
