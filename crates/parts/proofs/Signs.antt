-- Signed numbers as the code compares and hands them on, over every width.
use mathlib.Core.Path.{◌≡◌, refl, sym, ap, ◌∙◌}
use mathlib.Core.Bool.{Bool, true, false}
use Prim.Native.Nat.{ℕ, ◌<◌, ◌^◌}
use native.Mathlib.Omega.{arith}
use lib.IntN.{ℤ, pos, negsuc}
use lib.Pow.{pow_pos}
use lib.Signed.{mag}
use lib.Dec.{eqb}
use mir.Syntax.{Width, w16, w32}
use mir.Val.{SFits, to_z, of_z, hbits}
use mir.Facts.{to_z-of_z}
use borrow.Author.Tests.{eq-eqb, ne_eqb, eqb-true}
use Rattle.bits.specs.Bits.{to_bits}
use Rattle.bits.specs.Walk.{Walk, ◌⊕◌, wrote, run}
use Rattle.bits.specs.Codec.{Codec}
use Rattle.bits.specs.Codes.{su_out, su}
use Rattle.writer.specs.Walked.{Walked}
use Rattle.writer.specs.declared.BitWriter.{BitWriter}
use Rattle.writer.proofs.Walking.{Answer as Step}
use Rattle.std.specs.Result.{result_from_control_flow}
use Rattle.std.proofs.Common.{Continue}
use Rattle.bits.proofs.Leaves.{field-run}
use Rattle.writer.proofs.Walking.{on}
use Rattle.parts.specs.Codes.{same, inferred_signed}

-- the test tells
pub same_is : (a b : ℤ) → same a b ≡ true → a ≡ b
same_is (pos a) (pos b) h = ap pos (eqb-true a b h)
same_is (pos a) (negsuc b) h = let z : ◌≡◌ {A = ℕ} 0 1 = cc in absurd (omega arith)
same_is (negsuc a) (pos b) h = let z : ◌≡◌ {A = ℕ} 0 1 = cc in absurd (omega arith)
same_is (negsuc a) (negsuc b) h = ap negsuc (eqb-true a b h)

pub same_self : (a : ℤ) → same a a ≡ true
same_self (pos a) = eq-eqb a a refl
same_self (negsuc a) = eq-eqb a a refl

pub same_eq : (a b : ℤ) → a ≡ b → same a b ≡ true
same_eq a b h = rw h (same_self b)

pub same_ne : (a b : ℤ) → (a ≡ b → ⊥) → same a b ≡ false
same_ne (pos a) (pos b) h = ne_eqb a b (λ e. h (ap pos e))
same_ne (pos a) (negsuc b) h = refl
same_ne (negsuc a) (pos b) h = refl
same_ne (negsuc a) (negsuc b) h = ne_eqb a b (λ e. h (ap negsuc e))

-- what a machine word holds of a number
pub word : (w : Width) (z : ℤ) → mag z < 2 ^ hbits w → to_z w (of_z w z) ≡ z
word w z h = to_z-of_z {w = w} (record { sfits = h })

-- the code compares words
module _ (w : Width) (a b : ℤ) (f : SFits w a) (g : SFits w b) where
  pub word_is : of_z w a ≡ of_z w b → a ≡ b
  word_is h = sym (word w a f.sfits) ∙ ap (to_z w) h ∙ word w b g.sfits

  pub same_word : eqb (of_z w a) (of_z w b) ≡ same a b
  same_word = go (eqb (of_z w a) (of_z w b)) refl
    where
      go : (t : Bool) → eqb (of_z w a) (of_z w b) ≡ t → t ≡ same a b
      go true h = sym (same_eq a b (word_is (eqb-true (of_z w a) (of_z w b) h)))
      go false h = sym (same_ne a b (λ e. let q : ◌≡◌ {A = Bool} true false = sym (eq-eqb (of_z w a) (of_z w b) (ap (of_z w) e)) ∙ h in let z : ◌≡◌ {A = ℕ} 0 1 = cc in omega arith))

-- What a call is given is what its caller has: a walk that ends with the call, and one that goes on behind it.
given_any : (w : Width) (t : Codec ℤ) (z : ℤ) {c d : BitWriter} {s : Step} → mag z < 2 ^ hbits w → Walked (t.enc (to_z w (of_z w z))) c d s → Walked (t.enc z) c d s
given_any w t z f g = rw (word w z f) at g

module _ (t : Codec ℤ) (z : ℤ) {c d : BitWriter} {s : Step} where
  pub given : mag z < 2 ^ 31 → Walked (t.enc (to_z w32 (of_z w32 z))) c d s → Walked (t.enc z) c d s
  given f g = given_any w32 t z f g

  pub given_16 : mag z < 32768 → Walked (t.enc (to_z w16 (of_z w16 z))) c d s → Walked (t.enc z) c d s
  given_16 f g = given_any w16 t z f g

  pub given_then : {w : Walk} {far : BitWriter} {u : Step} {k : _} {x : Unit {0}} → mag z < 2 ^ 31 → Walked (t.enc (to_z w32 (of_z w32 z))) c d s → s ≡ result_from_control_flow k → k ≡ Continue x → Walked w d far u → Walked (t.enc z ⊕ w) c far u
  given_then f g h l k = on (given f g) h l k

-- the same of a number and the one that it has to be
module _ (e : ℕ) (y z : ℤ) {c d : BitWriter} {s : Step} where
  pub both : mag y < 2 ^ 31 → mag z < 2 ^ 31 → Walked ((inferred_signed e (to_z w32 (of_z w32 y))).enc (to_z w32 (of_z w32 z))) c d s → Walked ((inferred_signed e y).enc z) c d s
  both f g h = rw (word w32 y f, word w32 z g) at h

  pub both_then : {w : Walk} {far : BitWriter} {u : Step} {k : _} {x : Unit {0}} → mag y < 2 ^ 31 → mag z < 2 ^ 31 → Walked ((inferred_signed e (to_z w32 (of_z w32 y))).enc (to_z w32 (of_z w32 z))) c d s → s ≡ result_from_control_flow k → k ≡ Continue x → Walked w d far u
      → Walked ((inferred_signed e y).enc z ⊕ w) c far u
  both_then f g k h l q = on (both f g k) h l q

-- a number that a function finds
pub both_by : (e : ℕ) (y x z : ℤ) {c d : BitWriter} {s : Step} → mag y < 2 ^ 31 → mag z < 2 ^ 31 → y ≡ x → Walked ((inferred_signed e (to_z w32 (of_z w32 y))).enc (to_z w32 (of_z w32 z))) c d s → Walked ((inferred_signed e x).enc z) c d s
both_by e y x z f g h k = rw h at (both e y z f g k)

pub zero_small : mag (pos 0) < 2 ^ 31
zero_small = omega arith

pub zero_fits : (w : Width) → SFits w (pos 0)
zero_fits w = record { sfits = pow_pos (hbits w) }

pub zero_word : (w : Width) (a : ℤ) → SFits w a → eqb (of_z w a) 0 ≡ same a (pos 0)
zero_word w a f = same_word w a (pos 0) f (zero_fits w)

-- su(n) of a number that it holds, by its code
pub su-run : (n code e i : ℕ) (z : ℤ) → code ≡ su_out n z → code < 2 ^ n → run ((su n e i).enc z) ≡ wrote (to_bits n code)
unfolding su
su-run n code e i z q l = let k : su_out n z ≡ code = sym q in rw k (field-run n code _ l)

pub ruleset signs = (given, given_then, both, both_then, zero_small)
