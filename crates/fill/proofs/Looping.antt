-- How a loop reads the items of an array in place, one behind the other.
use mathlib.Core.Path.{◌≡◌, refl}
use mathlib.Core.List.{◌∷◌}
use mathlib.Core.Bool.{Bool, true, cond}
use Prim.Native.Nat.{ℕ, zero, suc, ◌+◌, ◌-◌, ◌<◌, ◌≤◌}
use native.Mathlib.Omega.{arith}
use lib.ListN.{replicate}
use lib.Dec.{ltb}
use borrow.Author.Tests.{lt-ltb, le-ltb}
use Rattle.bits.specs.Bits.{Bits, from}
use Rattle.bits.specs.Codec.{Codec, got, absent, choose, via, array, uncons, ◌▷◌, Nil, nil}
use Rattle.std.specs.Prelude.{Result, Ok, Err, IsErrAnd}
use Rattle.bits.specs.Answers.{found, Moved}
use Rattle.bits.specs.declared.answer.Refusal.{Refusal}
use Rattle.reader.specs.declared.BitReader.{BitReader}
use Rattle.reader.specs.Reading.{said, completes}
use Rattle.fill.specs.Fills.{Layout, ◌▸◌, of, nowhere, each, Fills}
use Rattle.fill.proofs.Filling.{Laid, laid, struct, onward, halted}

-- an item that is coded
chosen : {A M : Type 0} {l : Layout M A} (j : Layout M A) (b : Bool) (t u : Codec A) {p q : BitReader} {g : Result Nil Refusal} {m z : M}
    → b ≡ true → Fills l t.dec p q g m z → Fills (cond b l j) (choose b t u).dec p q g m z
unfolding choose
chosen j b t u h f = rw h f

-- items that are not
module _ {A M : Type 0} (z : A) (item : ℕ → Codec A) (l : ℕ → Layout M A) (n : ℕ) where
  none : (k i : ℕ) (bs : Bits) → n ≤ i → (array z item k i n).dec bs ≡ got (replicate k z) bs
  unfolding array via ◌▷◌ choose absent
  none zero i bs h = refl
  none (suc k) i bs h = rw (le-ltb i n h, none k (suc i) bs (omega arith))

  unput : (k i : ℕ) (m : M) → n ≤ i → (each z l k i n).put (replicate k z) m ≡ m
  unfolding each of ◌▸◌ nowhere
  unput zero i m h = refl
  unput (suc k) i m h = rw (le-ltb i n h) (unput k (suc i) m (omega arith))

  ended : (k i : ℕ) {p : BitReader} {m : M} → n ≤ i → Laid (each z l k i n) (array z item k i n) p p (Ok nil) m m
  unfolding found Moved
  ended k i {p} {m} h = laid (completes (said refl (record { finds = rw (none k i (from p.bytes.now p.at) h, unput k i m h) refl; moves = refl })))

-- To show the whole laid it is enough to show the rest laid, from item i on, with m in the place.
pub record Rest {A M : Type 0} (z : A) (l : ℕ → Layout M A) (item : ℕ → Codec A) (k n : ℕ) (old : BitReader) (m₀ : M) (p : BitReader) (m : M) (i : ℕ) : Type 0 where
  pub most : n ≤ k
  pub rest : (q : BitReader) (g : Result Nil Refusal) (o : M) → Laid (each z l (k - i) i n) (array z item (k - i) i n) p q g m o → Laid (each z l k 0 n) (array z item k 0 n) old q g m₀ o

module _ {A M : Type 0} {z : A} {l : ℕ → Layout M A} {item : ℕ → Codec A} {k n : ℕ} {old : BitReader} {m₀ : M} where
  pub rest_all : n ≤ k → Rest z l item k n old m₀ old m₀ 0
  rest_all h = let b : k - 0 ≡ k = omega arith in record { most = h; rest = λ q g o c. rw b at c }

  module _ {p : BitReader} {m : M} {i : ℕ} (r : Rest z l item k n old m₀ p m i) where
    next : i < n → (q : BitReader) (g : Result Nil Refusal) (o : M) → Laid (each z l (suc (k - (i + 1))) i n) (array z item (suc (k - (i + 1))) i n) p q g m o → Laid (each z l k 0 n) (array z item k 0 n) old q g m₀ o
    next h q g o c = let b : k - i ≡ suc (k - (i + 1)) = omega (arith, r.most) in r.rest q g o (rw b c)

    pub rest_on : i < n → {u : Nil} {n' : M} {s : BitReader} → Fills (l i) (item i).dec p s (Ok u) m n' → Rest z l item k n old m₀ s n' (i + 1)
    unfolding each array
    rest_on h {u} {n'} {s} f = record {
      most = r.most;
      rest = λ q g o c. next h q g o (struct (uncons z) (λ p. p.0 ∷ p.1) _ _ (λ a. refl) (onward _ _ _ _ (chosen (nowhere z) (ltb i n) (item i) (absent z) (lt-ltb i n h) f) (λ a. go q g o c)));
    }
      where
        go : (q : BitReader) (g : Result Nil Refusal) (o : M) → Laid (each z l (k - (i + 1)) (i + 1) n) (array z item (k - (i + 1)) (i + 1) n) s q g n' o → Laid (each z l (k - (i + 1)) (suc i) n) (array z item (k - (i + 1)) (suc i) n) s q g n' o
        go q g o c = let w : i + 1 ≡ suc i = omega arith in rw (← w) c

    pub rest_halt : i < n → {s : BitReader} {n' o : M} {y : Refusal} {g : Result Nil Refusal} → Fills (l i) (item i).dec p s (Err y) m n' → IsErrAnd g (λ z. z ≡ y) → Laid (each z l k 0 n) (array z item k 0 n) old s g m₀ o
    unfolding each array
    rest_halt h {s} {n'} {o} {y} {g} f e = next h s g o (struct (uncons z) (λ p. p.0 ∷ p.1) _ _ (λ a. refl) (halted _ _ (chosen (nowhere z) (ltb i n) (item i) (absent z) (lt-ltb i n h) f) e))

    pub rest_end : n ≤ i → Laid (each z l k 0 n) (array z item k 0 n) old p (Ok nil) m₀ m
    rest_end h = r.rest p (Ok nil) m (ended z item l n (k - i) i h)
