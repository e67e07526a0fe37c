-- How the value of a feature is read: a code, and what is clipped of it.
use mathlib.Core.Path.{◌≡◌, refl, ◌∙◌}
use Prim.Native.Nat.{ℕ, ◌+◌, ◌^◌, ◌<◌, ◌≤◌, min}
use mathlib.Core.Bool.{Bool, true, false}
use native.Mathlib.Omega.{arith}
use borrow.Author.Tests.{lt-ltb, le-ltb}
use lib.Dec.{ltb}
use lib.IntN.{ℤ, pos, neg_ℤ, ◌-ℤ◌}
use lib.Signed.{mag, ◌≤ℤ◌}
use lib.Pow.{pow_mono}
use mir.Syntax.{w16, w32}
use mir.Val.{SFits, to_z, of_z}
use Rattle.std.specs.Int.{int_max, int_min}
use Rattle.std.proofs.lemmas.Int.{ints}
use Rattle.std.specs.Prelude.{Result, Ok, Err, IsErrAnd}
use Rattle.bits.specs.Codec.{Codec, f, choose}
use Rattle.bits.specs.Codes.{su}
use Rattle.bits.specs.Answers.{found, Moved}
use Rattle.bits.specs.Elements.{feature_data}
use Rattle.bits.specs.Widths.{bit_length}
use Rattle.bits.specs.declared.answer.Refusal.{Refusal}
use Rattle.bits.specs.declared.answer.Refusal.TheVariants.{Unfit}
use Rattle.reader.specs.declared.BitReader.{BitReader}
use Rattle.reader.specs.Reading.{Said, said}
use Rattle.reader.proofs.Reading.{f_fits, exit, stops, start, field_as_lem, last, last_no}
use Rattle.fill.proofs.Signs.{su_of, su_fits}
use Rattle.fill.proofs.Filling.{was}
use Rattle.parts.specs.Codes.{clip, trimmed}
use Rattle.parts.specs.Codes as codes
use Rattle.parts.proofs.Signs.{word}
use Rattle.segmentation.specs.Segmentation.{feature_bits, feature_max, signed_value, unsigned_value, feature_value}
use Rattle.segmentation.proofs.Clipping.{clip-signed, clip-unsigned}
use Rattle.segmentation.proofs.Steps.{max-plain}

-- a value that is clipped once it is read
module _ (trim : ℤ → ℤ) (t : Codec ℤ) {p q : BitReader} where
  trim_read : {x v : ℤ} → Said t.dec p q (Ok x) → v ≡ trim x → Said (trimmed trim t).dec p q (Ok v)
  unfolding trimmed found Moved
  trim_read (said e r) h = said e (record { finds = rw (r.finds, h) refl; moves = r.moves })

  trim_halt : {y : Refusal} {r : Result ℤ Refusal} → Said t.dec p q (Err y) → IsErrAnd r (λ z. z ≡ y) → Said (trimmed trim t).dec p q r
  unfolding trimmed
  trim_halt s i = rw (exit i) (stops _ s (λ bs e. rw e refl))

-- a number without a sign
module _ (n e i : ℕ) {p q : BitReader} where
  natural_read : {v : ℕ} → Said (f n 0 0).dec p q (Ok v) → Said (codes.natural n e i).dec p q (Ok (pos v))
  unfolding codes.natural
  natural_read s = start _ (field_as_lem n (codes.natural_out n) pos (λ z. Unfit e i (bit_length (codes.natural_out n z))) (last _ s refl))

  natural_halt : {y : Refusal} → Said (f n 0 0).dec p q (Err y) → Said (codes.natural n e i).dec p q (Err y)
  unfolding codes.natural
  natural_halt s = start _ (field_as_lem n (codes.natural_out n) pos (λ z. Unfit e i (bit_length (codes.natural_out n z))) (last_no _ s refl))

-- the limit, widened to 32 bits
module _ (j : ℕ) {m l : ℤ} (a : m ≡ feature_max j) (b : mag m < 32768) (c : l ≡ to_z w16 (of_z w16 m)) where
  limit_is : l ≡ feature_max j
  limit_is = c ∙ word w16 m b ∙ a

  limit_plain : pos 0 ≤ℤ l
  limit_plain = rw limit_is (max-plain j)

  limit_fits : SFits w32 l
  limit_fits = rw (c, word w16 m b) (record { sfits = omega (arith, b) })

-- the value of feature j, by the numbers that the code finds
module _ (j bits : ℕ) (b : bits ≡ feature_bits j) (few : bits ≤ 8) {p q : BitReader} where
  module _ (h : j < 5) where
    module _ {g : Result ℤ Refusal} (s : Said (su (min (bits + 1) 32) 0 0).dec p q g) where
      near : Said (su (bits + 1) 0 0).dec p q g
      near = let k : min (bits + 1) 32 ≡ bits + 1 = omega arith in rw k at s

      coded : Said (su (feature_bits j + 1) feature_data 0).dec p q g
      coded = rw (← b) (su_of (bits + 1) feature_data 0 near)

    pub signed_halt : {y : Refusal} {r : Result ℤ Refusal} → Said (su (min (bits + 1) 32) 0 0).dec p q (Err y) → IsErrAnd r (λ z. z ≡ y) → Said (feature_value j 0).dec p q r
    unfolding feature_value signed_value choose
    signed_halt s i = rw (lt-ltb j 5 h) (trim_halt _ _ (coded s) i)

    pub signed-done : {m l x r : ℤ} → Said (su (min (bits + 1) 32) 0 0).dec p q (Ok x) → m ≡ feature_max j → mag m < 32768 → l ≡ to_z w16 (of_z w16 m) → mag r < 2147483648
        → r ≡ int_max (to_z w32 (of_z w32 (pos 0 -ℤ to_z w32 (of_z w32 l)))) (int_min (to_z w32 (of_z w32 x)) (to_z w32 (of_z w32 l))) → Said (feature_value j 0).dec p q (Ok (to_z w32 (of_z w32 r)))
    unfolding feature_value signed_value choose
    signed-done {m} {l} {x} {r} s a c d k e =
        let f : SFits w32 x = su_fits (bits + 1) 0 0 (near s) (lt-ltb (bits + 1) 33 (omega arith)) in
        let v = clip-signed w32 l (limit_plain j a c d) (limit_fits j a c d) x r f e in
        rw (lt-ltb j 5 h) (trim_read _ _ (coded s) (word w32 r k ∙ rw (limit_is j a c d) at v))

  module _ (h : 5 ≤ j) where
    module _ {g : Result ℕ Refusal} (s : Said (f (min bits 32) 0 0).dec p q g) where
      plain : Said (f bits 0 0).dec p q g
      plain = let k : min bits 32 ≡ bits = omega arith in rw k at s

    pub unsigned_halt : {y : Refusal} {r : Result ℤ Refusal} → Said (f (min bits 32) 0 0).dec p q (Err y) → IsErrAnd r (λ z. z ≡ y) → Said (feature_value j 0).dec p q r
    unfolding feature_value unsigned_value choose
    unsigned_halt s i = rw (le-ltb j 5 h) (trim_halt _ _ (rw (← b) (natural_halt bits feature_data 0 (plain s))) i)

    pub unsigned_fits : {x : ℕ} → Said (f (min bits 32) 0 0).dec p q (Ok x) → SFits w32 (pos x)
    unsigned_fits s = let k : 2 ^ bits ≤ 2 ^ 8 = pow_mono {j = 8} few in record { sfits = omega (arith, f_fits bits 0 0 (plain s)) }

    pub unsigned-done : {x : ℕ} {m l r : ℤ} → Said (f (min bits 32) 0 0).dec p q (Ok x) → m ≡ feature_max j → mag m < 32768 → l ≡ to_z w16 (of_z w16 m) → mag r < 2147483648
        → r ≡ int_max (pos 0) (int_min (to_z w32 (of_z w32 (pos x))) (to_z w32 (of_z w32 l))) → Said (feature_value j 0).dec p q (Ok (to_z w32 (of_z w32 r)))
    unfolding feature_value unsigned_value choose
    unsigned-done {x} {m} {l} {r} s a c d k e =
        let v = clip-unsigned w32 l (limit_plain j a c d) (limit_fits j a c d) (pos x) r (unsigned_fits s) e in
        rw (le-ltb j 5 h) (trim_read _ _ (rw (← b) (natural_read bits feature_data 0 (plain s))) (word w32 r k ∙ rw (limit_is j a c d) at v))

-- a value that was read lies within its limits
pub value_fits : (j i : ℕ) {v : ℤ} {p q : BitReader} → Said (feature_value j i).dec p q (Ok v) → SFits w32 v
unfolding feature_value signed_value unsigned_value choose trimmed clip
value_fits j i {v} {p} {q} s = go (ltb j 5) s
  where
    go : (t : Bool) → Said (choose t (signed_value (feature_bits j) (feature_max j) i) (unsigned_value (feature_bits j) (feature_max j) i)).dec p q (Ok v) → SFits w32 v
    go true u = let w = was (clip (neg_ℤ (feature_max j)) (feature_max j)) (su (feature_bits j + 1) feature_data i).dec u in rw w.made (record { sfits = grind (arith, ints) })
    go false u = let w = was (clip (pos 0) (feature_max j)) (codes.natural (feature_bits j) feature_data i).dec u in rw w.made (record { sfits = grind (arith, ints) })

pub ruleset feature_values = (signed_halt, signed-done, unsigned_halt, unsigned_fits, unsigned-done)
