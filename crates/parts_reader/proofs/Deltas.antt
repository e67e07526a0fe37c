-- How a delta is read, and what follows of it.
use mathlib.Core.Path.{◌≡◌, refl, ap, subst, ◌∙◌}
use mathlib.Core.List.{[], ◌∷◌}
use Prim.Native.Nat.{ℕ, ◌<◌, ◌^◌}
use native.Mathlib.Omega.{arith}
use mathlib.Core.Bool.{Bool, true, false, cond}
use lib.IntN.{ℤ, pos}
use mir.Syntax.{w32}
use mir.Val.{SFits, to_z, of_z}
use mir.Facts.{to_z-of_z}
use Rattle.std.specs.Prelude.{Result, Ok, Err, IsErrAnd}
use Rattle.bits.specs.Bits.{Bits, from_bits}
use Rattle.bits.specs.Answers.{found}
use Rattle.bits.proofs.Laws.{stop-got, then_inv, got-value}
use Rattle.bits.proofs.Numbers.{from_lt}
use Rattle.bits.proofs.Leaves.{take_inv}
use Rattle.fill.proofs.Signs.{in_fits}
use Rattle.bits.specs.Codec.{got, and_then, take_bits, flag, choose, absent, merged, ◌▷◌}
use Rattle.bits.specs.Codes.{su, su_in}
use Rattle.bits.specs.declared.answer.Refusal.{Refusal}
use Rattle.reader.specs.declared.BitReader.{BitReader}
use Rattle.reader.specs.Reading.{Said, Completes}
use Rattle.reader.proofs.Reading.{reads, start, one_of, on, halt, last, last_no, yes, no, nothing}
use Rattle.parts_reader.specs.Reading.{delta}

-- a flag, and the number if it is set
module _ (old : ℤ) {p q : BitReader} where
  pub delta_halt : {y : Refusal} {r : Result ℤ Refusal} → Said flag.dec p q (Err y) → IsErrAnd r (λ z. z ≡ y) → Said (delta old).dec p q r
  unfolding delta
  delta_halt s i = start _ (one_of _ _ _ (halt _ _ s i))

  module _ {b : Bool} (s : Said flag.dec p q (Ok b)) where
    pub delta-coded : b ≡ true → {n : BitReader} {g : Result ℤ Refusal} → Said (su 7 0 0).dec q n g → Said (delta old).dec p n g
    unfolding delta
    delta-coded h {n} {g} c = start _ (one_of _ _ _ (on flag _ s (yes b _ _ h (go g c))))
      where
        go : (g : Result ℤ Refusal) → Said (su 7 0 0).dec q n g → Completes (λ z. cond b z old) (su 7 0 0) q n g
        go (Ok a) c = last _ c (rw h)
        go (Err y) c = last_no _ c refl

    pub delta_old : b ≡ false → SFits w32 old → Said (delta old).dec p q (Ok (to_z w32 (of_z w32 old)))
    unfolding delta
    delta_old h f = rw (to_z-of_z f) (start _ (one_of _ _ _ (on flag _ s (no b _ _ h (nothing (pos 0) (rw h))))))

-- what su(7) reads fits a number of 32 bits, and so does a delta, if the old one does
su-bound : (bs : Bits) {z : ℤ} {r : Bits} → (su 7 0 0).dec bs ≡ got z r → SFits w32 z
unfolding su
su-bound bs {z} {r} h =
    let u = then_inv (take_bits 7 bs) (λ v rest. got (su_in 7 (from_bits v)) rest) z r h in
    let k : from_bits u.0 < 2 ^ 7 = subst (λ (k : ℕ). from_bits u.0 < 2 ^ k) (take_inv 7 bs u.0 u.1 u.2).0 (from_lt u.0) in
    subst (λ (x : ℤ). SFits w32 x) (got-value u.3) (in_fits 7 (from_bits u.0) (omega arith) k)

delta-bound : (old : ℤ) → SFits w32 old → (bs : Bits) {z : ℤ} {r : Bits} → (delta old).dec bs ≡ got z r → SFits w32 z
unfolding delta merged ◌▷◌ flag choose absent
delta-bound old o [] h = absurd (stop-got h)
delta-bound old o (true ∷ bs) {z} {r} h =
    let u = then_inv (and_then ((su 7 0 0).dec bs) (λ x end. got (true, x) end)) (λ p rest. got (cond p.0 p.1 old) rest) z r h in
    let w = then_inv ((su 7 0 0).dec bs) (λ x end. got (true, x) end) u.0 u.1 u.2 in
    let e : w.0 ≡ z = ap (λ (p : Bool × ℤ). cond p.0 p.1 old) (got-value w.3) ∙ got-value u.3 in
    subst (λ (x : ℤ). SFits w32 x) e (su-bound bs w.2)
delta-bound old o (false ∷ bs) h = subst (λ (x : ℤ). SFits w32 x) (got-value h) o

pub delta_fits : (old : ℤ) → SFits w32 old → {p q : BitReader} {z : ℤ} → Said (delta old).dec p q (Ok z) → SFits w32 z
unfolding found
delta_fits old o s = delta-bound old o _ (reads s).finds

pub ruleset deltas = (delta_halt, delta-coded, delta_old)
