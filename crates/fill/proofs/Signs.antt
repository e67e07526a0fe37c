-- How a number or a flag that was read is put among numbers with a sign.
use mathlib.Core.Path.{◌≡◌, refl, ap, ◌∙◌}
use mathlib.Core.List.{List}
use mathlib.Core.Bool.{Bool, true, false, cond}
use Prim.Native.Nat.{ℕ, suc, ◌*◌, ◌-◌, ◌^◌, ◌<◌, ◌≤◌}
use native.Mathlib.Omega.{arith}
use lib.IntN.{ℤ, pos, negsuc}
use lib.Signed.{mag}
use lib.ListN.{set}
use lib.Pow.{pow_mono}
use lib.Dec.{ltb}
use borrow.Author.Tests.{ltb-true, ltb-false}
use mir.Syntax.{w32}
use mir.Val.{SFits, to_z, of_z, bool_byte}
use mir.Facts.{to_z-of_z}
use Rattle.std.specs.Prelude.{Result, Ok}
use Rattle.std.specs.Result.{result_from_control_flow}
use Rattle.std.specs.declared.ops.ControlFlow.TheVariants.{Continue}
use Rattle.bits.specs.Bits.{Bits, from_bits}
use Rattle.bits.specs.Codec.{Codec, Got, take_bits, f, ◌▷◌, Nil, nil}
use Rattle.bits.specs.Codes.{su, su_in}
use Rattle.bits.specs.declared.answer.Refusal.{Refusal}
use Rattle.bits.proofs.Bounds.{bits_small}
use Rattle.reader.specs.declared.BitReader.{BitReader}
use Rattle.reader.specs.Reading.{Said}
use Rattle.reader.proofs.Reading.{reads, f_fits, went, By, by, read_by}
use Rattle.fill.specs.Fills.{Layout, natural, signed_bit, same, at, ◌▸◌}
use Rattle.fill.proofs.Filling.{Laid, was, put_on, put_last, fillings, filled_steps, filled_exits}

-- a number of at most 31 bits fits; a flag does
module _ (n e c : ℕ) {v : ℕ} {p q : BitReader} (s : Said (f n e c).dec p q (Ok v)) (few : ltb n 32 ≡ true) where
  pub natural_fits : SFits w32 (pos v)
  natural_fits = let k : 2 ^ n ≤ 2 ^ 31 = pow_mono {j = 31} (omega (arith, ltb-true n 32 few)) in record { sfits = omega (arith, f_fits n e c s) }

  natural_is : to_z w32 (of_z w32 (pos v)) ≡ pos v
  natural_is = to_z-of_z natural_fits

bit_is : (b : Bool) → to_z w32 (bool_byte b) ≡ pos (bool_byte b)
bit_is true = refl
bit_is false = refl

-- a number with a sign, of at most 32 bits
pub in_fits : (n v : ℕ) → n ≤ 32 → v < 2 ^ n → SFits w32 (su_in n v)
in_fits n v l h = record { sfits = go (ltb (v * 2) (2 ^ n)) refl }
  where
    go : (b : Bool) → ltb (v * 2) (2 ^ n) ≡ b → mag (cond b (pos v) (negsuc (2 ^ n - suc v))) < 2 ^ 31
    go true e = let k : 2 ^ n ≤ 2 ^ 32 = pow_mono l in omega (arith, ltb-true (v * 2) (2 ^ n) e)
    go false e = let k : 2 ^ n ≤ 2 ^ 32 = pow_mono l in omega (arith, ltb-false (v * 2) (2 ^ n) e)

module _ (n e c : ℕ) where
  pub by_su : By (su n e c) (su n 0 0).dec
  unfolding su
  by_su = by (λ bs. refl)

  pub su_of : {p q : BitReader} {r : Result ℤ Refusal} → Said (su n 0 0).dec p q r → Said (su n e c).dec p q r
  su_of s = read_by (su n e c) s by_su

  pub su_fits : {x : ℤ} {p q : BitReader} → Said (su n e c).dec p q (Ok x) → ltb n 33 ≡ true → SFits w32 x
  unfolding su
  su_fits s few =
      let l : n ≤ 32 = omega (arith, ltb-true n 33 few) in
      let w = was (λ bs. su_in n (from_bits bs)) (take_bits n) s in
      rw w.made (in_fits n (from_bits w.it) l (bits_small n (reads w.reads)))

module _ (o : ℤ) (i : ℕ) {p q s : BitReader} {g : Result Nil Refusal} {m z : List ℤ} where
  module _ (n e c : ℕ) {v : ℕ} where
    pub put_natural : {B : Type 0} (j : Layout (List ℤ) B) (k : ℕ → Codec B) → Said (f n e c).dec p q (Ok v) → ltb n 32 ≡ true
        → Laid j (k v) q s g (set m i (to_z w32 (of_z w32 (pos v)))) z → Laid (at o i natural ▸ j) (f n e c ▷ k) p s g m z
    put_natural j k r few h = put_on o i natural j (f n e c) k r (rw (natural_is n e c r few) at h)

    pub then_natural : {B : Type 0} (j : Layout (List ℤ) B) (k : ℕ → Codec B) {d : Bits → Got ℕ} {h : Result ℕ Refusal} {x : _}
        → Said d p q h → By (f n e c) d → h ≡ result_from_control_flow x → x ≡ Continue v → ltb n 32 ≡ true
        → Laid j (k v) q s g (set m i (to_z w32 (of_z w32 (pos v)))) z → Laid (at o i natural ▸ j) (f n e c ▷ k) p s g m z
    then_natural j k r b a w few h = put_natural j k (read_by (f n e c) (went r a w) b) few h

  module _ (n e c : ℕ) {v : ℤ} where
    pub put_signed : {B : Type 0} (j : Layout (List ℤ) B) (k : ℤ → Codec B) → Said (su n e c).dec p q (Ok v) → ltb n 33 ≡ true
        → Laid j (k v) q s g (set m i (to_z w32 (of_z w32 v))) z → Laid (at o i same ▸ j) (su n e c ▷ k) p s g m z
    put_signed j k r few h = put_on o i same j (su n e c) k r (rw (to_z-of_z (su_fits n e c r few)) at h)

    pub then_signed : {B : Type 0} (j : Layout (List ℤ) B) (k : ℤ → Codec B) {d : Bits → Got ℤ} {h : Result ℤ Refusal} {x : _}
        → Said d p q h → By (su n e c) d → h ≡ result_from_control_flow x → x ≡ Continue v → ltb n 33 ≡ true
        → Laid j (k v) q s g (set m i (to_z w32 (of_z w32 v))) z → Laid (at o i same ▸ j) (su n e c ▷ k) p s g m z
    then_signed j k r b a w few h = put_signed j k (read_by (su n e c) (went r a w) b) few h

  module _ (t : Codec Bool) {v : Bool} where
    pub put_bit : {B : Type 0} (j : Layout (List ℤ) B) (k : Bool → Codec B) → Said t.dec p q (Ok v)
        → Laid j (k v) q s g (set m i (to_z w32 (bool_byte v))) z → Laid (at o i signed_bit ▸ j) (t ▷ k) p s g m z
    put_bit j k r h = put_on o i signed_bit j t k r (rw (bit_is v) at h)

    pub then_bit : {B : Type 0} (j : Layout (List ℤ) B) (k : Bool → Codec B) {d : Bits → Got Bool} {h : Result Bool Refusal} {x : _}
        → Said d p q h → By t d → h ≡ result_from_control_flow x → x ≡ Continue v
        → Laid j (k v) q s g (set m i (to_z w32 (bool_byte v))) z → Laid (at o i signed_bit ▸ j) (t ▷ k) p s g m z
    then_bit j k r b a w h = put_bit j k (read_by t (went r a w) b) h

module _ (o : ℤ) (i : ℕ) {p q : BitReader} {m z : List ℤ} where
  module _ (n e c : ℕ) {v : ℕ} where
    pub natural_last : Said (f n e c).dec p q (Ok v) → ltb n 32 ≡ true → z ≡ set m i (to_z w32 (of_z w32 (pos v))) → Laid (at o i natural) (f n e c) p q (Ok nil) m z
    natural_last r few h = put_last o i natural (f n e c) r (h ∙ ap (set m i) (natural_is n e c r few))

    pub then_natural_last : {d : Bits → Got ℕ} {h : Result ℕ Refusal} {x : _} → Said d p q h → By (f n e c) d → h ≡ result_from_control_flow x → x ≡ Continue v → ltb n 32 ≡ true
        → z ≡ set m i (to_z w32 (of_z w32 (pos v))) → Laid (at o i natural) (f n e c) p q (Ok nil) m z
    then_natural_last r b a w few h = natural_last (read_by (f n e c) (went r a w) b) few h

  module _ (n e c : ℕ) {v : ℤ} where
    pub signed_last : Said (su n e c).dec p q (Ok v) → ltb n 33 ≡ true → z ≡ set m i (to_z w32 (of_z w32 v)) → Laid (at o i same) (su n e c) p q (Ok nil) m z
    signed_last r few h = put_last o i same (su n e c) r (h ∙ ap (set m i) (to_z-of_z (su_fits n e c r few)))

    pub then_signed_last : {d : Bits → Got ℤ} {h : Result ℤ Refusal} {x : _} → Said d p q h → By (su n e c) d → h ≡ result_from_control_flow x → x ≡ Continue v → ltb n 33 ≡ true
        → z ≡ set m i (to_z w32 (of_z w32 v)) → Laid (at o i same) (su n e c) p q (Ok nil) m z
    then_signed_last r b a w few h = signed_last (read_by (su n e c) (went r a w) b) few h

  module _ (t : Codec Bool) {v : Bool} where
    pub bit_last : Said t.dec p q (Ok v) → z ≡ set m i (to_z w32 (bool_byte v)) → Laid (at o i signed_bit) t p q (Ok nil) m z
    bit_last r h = put_last o i signed_bit t r (h ∙ ap (set m i) (bit_is v))

    pub then_bit_last : {d : Bits → Got Bool} {h : Result Bool Refusal} {x : _} → Said d p q h → By t d → h ≡ result_from_control_flow x → x ≡ Continue v
        → z ≡ set m i (to_z w32 (bool_byte v)) → Laid (at o i signed_bit) t p q (Ok nil) m z
    then_bit_last r b a w h = bit_last (read_by t (went r a w) b) h

-- `fillings`, `filled_steps` and `filled_exits` among numbers with a sign
pub ruleset signed_fillings = (fillings, natural_fits, su_of, put_natural, put_signed, put_bit, natural_last, signed_last, bit_last)

pub ruleset signed_steps = (then_natural, then_signed, then_bit, then_natural_last, then_signed_last, then_bit_last, by_su, filled_steps)

pub ruleset signed_exits = (then_natural, then_signed, then_bit, by_su, filled_exits)
