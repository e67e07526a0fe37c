-- uvlc and su(n) read: the value of the bits that were read.
use mathlib.Core.Path.{◌≡◌, refl, ◌∙◌}
use Prim.Native.Nat.{ℕ, ◌+◌, ◌-◌, ◌*◌, ◌^◌, ◌<◌, ◌≤◌, suc, min}
use native.Mathlib.Omega.{arith}
use lib.IntN.{ℤ, negsuc, ◌-ℤ◌}
use lib.Signed.{mag}
use mir.Syntax.{w32}
use mir.Val.{SFits, to_z, of_z, hbits}
use mir.Facts.{to_z_pos}
use borrow.Author.Tests.{lt-ltb, le-ltb}
use lib.Pow.{pow_mono}
use Rattle.std.specs.Prelude.{Result, Ok, Err, IsErrAnd}
use Rattle.bits.specs.Codec.{f, nil}
use Rattle.bits.specs.Codes.{unary, uvlc, su, su_out, su_in}
use Rattle.bits.specs.Answers.{found, Moved}
use Rattle.bits.specs.Widths.{signed_length}
use Rattle.bits.specs.declared.answer.Refusal.{Refusal}
use Rattle.bits.specs.declared.answer.Refusal.TheVariants.{Unfit}
use Rattle.bits.proofs.Signs.{same, unflip_fits, unflip_is}
use Rattle.bits.proofs.Bounds.{f_small, unary_small, one_some}
use Rattle.reader.specs.declared.BitReader.{BitReader}
use Rattle.reader.specs.Reading.{Said, said}
use Rattle.reader.proofs.Reading.{reads, exit, stops, start, field_as_lem, last, last_no}

-- The numbers of su(n)'s codes, by the test that the code makes.
module _ (n v p : ℕ) (q : p ≡ 2 ^ n) (l : n ≤ 32) where
  pub value_low_fits : v * 2 < p → v < 2 ^ 31
  value_low_fits h = let k : 2 ^ n ≤ 2 ^ 32 = pow_mono l in omega arith

  pub value_low : v * 2 < p → to_z w32 v ≡ su_in n v
  value_low h = to_z_pos w32 (value_low_fits h) ∙ rw (lt-ltb (v * 2) (2 ^ n) (rw (← q) h))

  pub value_high_fits : p ≤ v * 2 → p - (v + 1) < 2 ^ 31
  value_high_fits h = let k : 2 ^ n ≤ 2 ^ 32 = pow_mono l in omega arith

  pub value_high_flips : p ≤ v * 2 → SFits w32 (negsuc 0 -ℤ to_z w32 (p - (v + 1)))
  value_high_flips h = unflip_fits w32 (p - (v + 1)) (value_high_fits h)

  pub value_high : p ≤ v * 2 → to_z w32 (of_z w32 (negsuc 0 -ℤ to_z w32 (p - (v + 1)))) ≡ su_in n v
  value_high h =
      let e : p - (v + 1) ≡ 2 ^ n - suc v = omega arith in
      unflip_is w32 (p - (v + 1)) (value_high_fits h) ∙ rw (le-ltb (v * 2) (2 ^ n) (rw (← q) h), e)

-- zeros up to a one, and then the number that begins with it, in one bit more
module _ (e i : ℕ) {p q : BitReader} where
  pub uvlc_halt : {y : Refusal} {r : Result ℕ Refusal} → Said (unary 31 e i) p q (Err y) → IsErrAnd r (λ z. z ≡ y) → Said (uvlc e i).dec p q r
  unfolding uvlc
  uvlc_halt s x = rw (exit x) (stops _ s (λ bs e. rw e refl))

  module _ {z : ℕ} (s : Said (unary 31 e i) p q (Ok z)) where
    pub uvlc-few : z + 1 < 2 ^ 32
    uvlc-few = omega (arith, unary_small 31 e i (reads s))

    width_is : min (z + 1) 32 ≡ z + 1
    width_is = omega (arith, unary_small 31 e i (reads s))

    module _ {n : BitReader} where
      pub uvlc_halt_2 : {y : Refusal} {r : Result ℕ Refusal} → Said (f (min (z + 1) 32) 0 0).dec q n (Err y) → IsErrAnd r (λ z. z ≡ y) → Said (uvlc e i).dec p n r
      unfolding uvlc f found Moved
      uvlc_halt_2 t x = rw (exit x) (go s (rw width_is at t))
        where
          go : {y : Refusal} → Said (unary 31 e i) p q (Ok z) → Said (f (z + 1) 0 0).dec q n (Err y) → Said (uvlc e i).dec p n (Err y)
          go (said a b) (said c d) = said (c ∙ a) (record { finds = rw (b.finds, rw a at d.finds) refl; moves = nil })

      module _ {v : ℕ} (t : Said (f (min (z + 1) 32) 0 0).dec q n (Ok v)) where
        whole_width : Said (f (z + 1) 0 0).dec q n (Ok v)
        whole_width = rw width_is at t

        pub uvlc_some : 1 ≤ v
        uvlc_some = go s whole_width
          where
            go : Said (unary 31 e i) p q (Ok z) → Said (f (z + 1) 0 0).dec q n (Ok v) → 1 ≤ v
            go (said a b) (said c d) = one_some 31 e i b (rw a at d)

        pub uvlc-done : Said (uvlc e i).dec p n (Ok (v - 1))
        unfolding uvlc f found Moved
        uvlc-done = go s whole_width
          where
            go : Said (unary 31 e i) p q (Ok z) → Said (f (z + 1) 0 0).dec q n (Ok v) → Said (uvlc e i).dec p n (Ok (v - 1))
            go (said a b) (said c d) = said (c ∙ a) (record { finds = rw (b.finds, rw a at d.finds) refl; moves = rw a at d.moves ∙ b.moves })

pub ruleset uvlcs = (uvlc_halt, uvlc-few, uvlc_halt_2, uvlc_some, uvlc-done)

-- n bits of two's complement
module _ (n w : ℕ) (e : w ≡ min n 32) {p q : BitReader} where
  module _ {g : Result ℕ Refusal} where
    width : Said (f (min w 32) 0 0).dec p q g → Said (f (min n 32) 0 0).dec p q g
    width s = let m : min w 32 ≡ min n 32 = omega arith in rw m at s

  pub su_halt : {y : Refusal} {r : Result ℤ Refusal} → Said (f (min w 32) 0 0).dec p q (Err y) → IsErrAnd r (λ z. z ≡ y) → Said (su (min n 32) 0 0).dec p q r
  unfolding su
  su_halt s x = start (su (min n 32) 0 0) (field_as_lem _ (su_out (min n 32)) (su_in (min n 32)) (λ z. Unfit 0 0 (signed_length z)) (last_no _ (width s) x))

  module _ {v : ℕ} (s : Said (f (min w 32) 0 0).dec p q (Ok v)) where
    pub su_small : v < 2 ^ w
    su_small = rw e (f_small (min n 32) 0 0 (reads (width s)))

    pub su-done : (r : ℤ) → mag r < 2 ^ hbits w32 → r ≡ su_in w v → Said (su (min n 32) 0 0).dec p q (Ok (to_z w32 (of_z w32 r)))
    unfolding su
    su-done r l x = rw (same w32 r (record { sfits = l })) (start (su (min n 32) 0 0) (field_as_lem _ (su_out (min n 32)) (su_in (min n 32)) (λ z. Unfit 0 0 (signed_length z)) (last _ (width s) (rw (← e) x))))

pub ruleset sus = (su_halt, su_small, su-done)
