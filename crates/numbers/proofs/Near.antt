-- Numbers that the tables' fields write alike: a number, and the nearest that a narrower type holds.
use mathlib.Core.Path.{◌≡◌, refl, sym, ap, ◌∙◌}
use mathlib.Core.Bool.{Bool, true, false, cond}
use Prim.Native.Nat.{ℕ, zero, suc, ◌<◌, ◌≤◌}
use native.Mathlib.Omega.{arith}
use lib.Dec.{ltb}
use lib.IntN.{ℤ, pos, negsuc, neg_ℤ}
use lib.Signed.{mag, lt_z}
use borrow.Author.Tests.{ltb-true, ltb-false, lt-ltb, le-ltb, ne_eqb}
use Rattle.bits.specs.Walk.{done, demand, run}
use Rattle.bits.specs.Codec.{Codec}
use Rattle.bits.specs.declared.answer.Refusal.{Refusal}
use Rattle.bits.specs.declared.answer.Refusal.TheVariants.{Inconsistent}
use Rattle.bits.proofs.Laws.{refused-done}
use Rattle.parts.specs.Codes.{same, inferred_signed, clip, trimmed}
use Rattle.parts.proofs.Signs.{same_is}
use Rattle.numbers.proofs.Alike.{Alike}

-- equal, or both m and more, or both -(m + 1) and less
pub data NearZ (m : ℕ) : ℤ → ℤ → Type 0 where
  alone : {z : ℤ} → NearZ m z z
  above : {a b : ℕ} → m ≤ a → m ≤ b → NearZ m (pos a) (pos b)
  below : {a b : ℕ} → m ≤ a → m ≤ b → NearZ m (negsuc a) (negsuc b)

pub clip_near : (m : ℕ) (z : ℤ) → NearZ m (clip (negsuc m) (pos m) z) z
unfolding clip
clip_near m (pos a) = go (ltb m a) refl
  where
    go : (t : Bool) → ltb m a ≡ t → NearZ m (cond t (pos m) (pos a)) (pos a)
    go true e = above {a = m} {b = a} (omega arith) (omega (arith, ltb-true m a e))
    go false e = alone
clip_near m (negsuc a) = go (ltb m a) refl
  where
    go : (t : Bool) → ltb m a ≡ t → NearZ m (cond t (negsuc m) (negsuc a)) (negsuc a)
    go true e = below {a = m} {b = a} (omega arith) (omega (arith, ltb-true m a e))
    go false e = alone

-- a number that is looked for inside the bounds
same_near : {m : ℕ} (x : ℤ) {y z : ℤ} → mag x < m → NearZ m y z → same y x ≡ same z x
same_near x l alone = refl
same_near (pos x) l (above {a} {b} p q) = ne_eqb a x (λ e. omega arith) ∙ sym (ne_eqb b x (λ e. omega arith))
same_near (negsuc x) l (above p q) = refl
same_near (pos x) l (below p q) = refl
same_near (negsuc x) l (below {a} {b} p q) = ne_eqb a x (λ e. omega arith) ∙ sym (ne_eqb b x (λ e. omega arith))

demanded : (t : Bool) (r : Refusal) → (run (demand t r)).end ≡ done → t ≡ true
unfolding run
demanded true r h = refl
demanded false r h = absurd (refused-done h)

found : (e : ℕ) (x y : ℤ) → (run ((inferred_signed e x).enc y)).end ≡ done → y ≡ x
unfolding inferred_signed
found e x y h = same_is y x (demanded (same y x) (Inconsistent e 0) h)

pub looked_for : (e m : ℕ) (x : ℤ) {y z : ℤ} → mag x < m → NearZ m y z → Alike (inferred_signed e x) y z
unfolding inferred_signed
looked_for e m x {y} {z} l near =
    let k = same_near x l near in
    record {
      runs = ap (λ (t : Bool). run (demand t (Inconsistent e 0))) k;
      codes = λ h. found e x y h ∙ sym (same_is z x (sym k ∙ demanded (same y x) (Inconsistent e 0) h));
    }

-- clipped to narrower bounds
module _ (low : ℤ) (high m : ℕ) (h : high ≤ m) (up : (a : ℕ) → lt_z (pos a) low ≡ false) (down : (a : ℕ) → m ≤ a → lt_z (negsuc a) low ≡ true) where
  clip_above : (a : ℕ) → m ≤ a → clip low (pos high) (pos a) ≡ pos high
  unfolding clip
  clip_above a p = rw (up a) (go (ltb high a) refl)
    where
      go : (t : Bool) → ltb high a ≡ t → cond t (pos high) (pos a) ≡ pos high
      go true e = refl
      go false e = ap pos (omega (arith, ltb-false high a e))

  clip-below : (a : ℕ) → m ≤ a → clip low (pos high) (negsuc a) ≡ low
  unfolding clip
  clip-below a p = rw (down a p)

  clip-same : {y z : ℤ} → NearZ m y z → clip low (pos high) y ≡ clip low (pos high) z
  clip-same alone = refl
  clip-same (above {a} {b} p q) = clip_above a p ∙ sym (clip_above b q)
  clip-same (below {a} {b} p q) = clip-below a p ∙ sym (clip-below b q)

trimmed-alike : (trim : ℤ → ℤ) (c : Codec ℤ) {y z : ℤ} → trim y ≡ trim z → Alike (trimmed trim c) y z
unfolding trimmed
trimmed-alike trim c e = record { runs = ap (λ (x : ℤ). run (c.enc x)) e; codes = λ _. e }

module _ (c : Codec ℤ) (high m : ℕ) (h : high ≤ m) {y z : ℤ} (near : NearZ m y z) where
  pub clipped : Alike (trimmed (clip (neg_ℤ (pos high)) (pos high)) c) y z
  clipped = trimmed-alike _ c (clip-same (neg_ℤ (pos high)) high m h (up high) (down high h) near)
    where
      up : (n a : ℕ) → lt_z (pos a) (neg_ℤ (pos n)) ≡ false
      up zero a = le-ltb a 0 (omega arith)
      up (suc n) a = refl

      down : (n : ℕ) → n ≤ m → (a : ℕ) → m ≤ a → lt_z (negsuc a) (neg_ℤ (pos n)) ≡ true
      down zero l a k = refl
      down (suc n) l a k = lt-ltb n a (omega arith)

  pub clipped_plain : Alike (trimmed (clip (pos 0) (pos high)) c) y z
  clipped_plain = trimmed-alike _ c (clip-same (pos 0) high m h (λ a. le-ltb a 0 (omega arith)) (λ a k. refl) near)
