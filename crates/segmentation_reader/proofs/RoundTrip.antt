-- Over and back. What is written reads back as it was coded, values as clipped. What is read is written again, in as many bits: by the same bits, but for
-- a value beyond its limit, which is written as it was clipped (`Clipped`).
use mathlib.Core.Path.{◌≡◌, refl, sym, ap, ◌∙◌}
use mathlib.Core.List.{[], ◌∷◌, ◌++◌}
use mathlib.Core.Bool.{Bool, true, false, cond}
use Prim.Native.Nat.{ℕ, zero, suc, ◌+◌, ◌*◌, ◌-◌, ◌<◌, ◌≤◌, ◌^◌}
use native.Mathlib.Omega.{arith}
use borrow.Author.Tests.{lt-ltb, le-ltb, le-leb, ltb-false}
use lib.Dec.{ltb}
use lib.IntN.{ℤ, pos, negsuc, neg_ℤ, nat_abs}
use lib.Signed.{lt_z}
use lib.Pow.{pow_pos, pow-add}
use lib.ListN.{length, length-append, get_or-map}
use Rattle.bits.specs.Bits.{Bits, to_bits}
use Rattle.bits.specs.Codec.{got, field_as}
use Rattle.bits.specs.Codes.{su, su_out, su_in}
use Rattle.bits.specs.declared.answer.Refusal.{Refusal}
use Rattle.bits.proofs.Laws.{then_inv, got-value, got-rest, wrote-bits}
use Rattle.bits.proofs.Leaves.{field-run, field_fits}
use Rattle.bits.proofs.CodeLaws.{su_law}
use Rattle.bits.proofs.Numbers.{length-to_bits}
use Rattle.parts.specs.Codes.{natural, natural_out, clip, trimmed}
use Rattle.parts.specs.Codes as numbers
use Rattle.parts.proofs.Signs.{same_is, same_eq}
use Rattle.parts.proofs.Pairs.{zip-back}
use Rattle.parts_reader.specs.Again.{Again, Rewrites, rewrites}
use Rattle.parts_reader.specs.Refusals.{OnlyEnds}
use Rattle.parts_reader.specs.OverAndBack.{OverAndBack}
use Rattle.parts_reader.proofs.Refusing.{endings}
use Rattle.parts_reader.proofs.Again.{Pieces, agains, via-again, array_again, inferred_flag-again, inferred_signed-again, choose-again}
use Rattle.parts_reader.proofs.RoundTrip.{over_and_back}
use Rattle.bits.specs.Elements.{feature_enabled, feature_data}
use Rattle.segmentation_reader.specs.Clipped.{held, signed_code, Clipped, same, both, beyond}
use Rattle.bits.specs.Lawful.{loose, Lawful}
use Rattle.segmentation.specs.declared.record.SegmentationContext.{SegmentationContext}
use Rattle.segmentation.specs.Segmentation.{feature_bits, feature_max, signed_value, unsigned_value, feature_value, feature, features, no_flags, no_data, no_features, features_if, temporal_update, coded_updates, inferred_updates, with_reference, without_reference, enabled_params, segmentation_table, segmentation_out, segmentation_in, segmentation_params}
use Rattle.segmentation.proofs.Laws.{natural_law, segmentation_law}
use Rattle.segmentation.proofs.Clipping.{clip-clip, signed_order, unsigned_order}
use Rattle.segmentation.proofs.Steps.{max-plain}

-- no refusal but that of bits that run out
value-ends : (j i : ℕ) → OnlyEnds (feature_value j i)
unfolding feature_value signed_value unsigned_value
value-ends j i = search endings depth 12

features-ends : (update : Bool) → OnlyEnds (features_if update)
unfolding features_if features feature no_features no_flags no_data
features-ends update = search (endings, value-ends) depth 12

segmentation-ends : (context : SegmentationContext) → OnlyEnds (segmentation_params context)
unfolding segmentation_params segmentation_table enabled_params with_reference without_reference coded_updates inferred_updates temporal_update
segmentation-ends context = search (endings, features-ends) depth 12

pub clipped_pieces : Pieces Clipped
clipped_pieces = record { same = same; both = both }

-- as many bits
pub clipped_length : {es bs : Bits} → Clipped es bs → length es ≡ length bs
clipped_length (same bs) = refl
clipped_length (both {a} {b} {c} {d} p q) = omega (arith, clipped_length p, clipped_length q, length-append a c, length-append b d)
clipped_length (beyond j z h) = length-to_bits (feature_bits j + 1) _ ∙ sym (length-to_bits (feature_bits j + 1) _)

-- a value of n bits that is clipped: what was clipped fits as well
module _ {A : Type 0} (n : ℕ) (out : A → ℕ) (in-again : ℕ → A) (y : A → Refusal) (trim : A → A) (fits : (a : A) → out (trim a) < 2 ^ n) (twice : (a : A) → trim (trim a) ≡ trim a)
    (C : Lawful loose (field_as n out in-again y)) (near : (z : A) → out z < 2 ^ n → Clipped (to_bits n (out (trim z))) (to_bits n (out z))) where
  clipped : Rewrites Clipped (trimmed trim (field_as n out in-again y))
  unfolding trimmed
  clipped = rewrites go
    where
      go : (bs : Bits) (a : A) (rest : Bits) → (trimmed trim (field_as n out in-again y)).dec bs ≡ got a rest → Again Clipped (trimmed trim (field_as n out in-again y)) bs a rest
      go bs a rest h =
          let u = then_inv ((field_as n out in-again y).dec bs) (λ x rest. got (trim x) rest) a rest h in
          let s = C.sound bs u.0 u.1 u.2 in
          let l : out u.0 < 2 ^ n = field_fits n (out u.0) _ s.0 s.1 in
          let o : to_bits n (out u.0) ≡ s.0 = wrote-bits (sym (field-run n (out u.0) _ l) ∙ s.1) in
          let e : trim u.0 ≡ a = got-value u.3 in
          let c : trim a ≡ a = ap trim (sym e) ∙ twice u.0 ∙ e in
          let k : to_bits n (out (trim u.0)) ≡ to_bits n (out (trim a)) = ap (λ (x : A). to_bits n (out x)) (e ∙ sym c) in
          record {
            front = s.0;
            again = to_bits n (out (trim a));
            taken = ap (λ (r : Bits). s.0 ++ r) (sym (got-rest u.3)) ∙ s.2;
            writes = field-run n (out (trim a)) _ (fits a);
            alike = rw (k, o) at (near u.0 l);
            all = c;
          }

-- a number held to its limit is no further from 0
near : (m : ℕ) (z : ℤ) → nat_abs (clip (neg_ℤ (pos m)) (pos m) z) ≤ m
unfolding clip
near m z = go m z (lt_z z (neg_ℤ (pos m))) refl (lt_z (pos m) z) refl
  where
    neg : (m : ℕ) → nat_abs (neg_ℤ (pos m)) ≤ m
    neg zero = omega arith
    neg (suc m) = omega arith

    kept : (m : ℕ) (z : ℤ) → lt_z z (neg_ℤ (pos m)) ≡ false → lt_z (pos m) z ≡ false → nat_abs z ≤ m
    kept m (pos k) p q = omega (arith, ltb-false m k q)
    kept zero (negsuc k) p q = let e : ◌≡◌ {A = ℕ} 0 1 = cc in absurd (omega arith)
    kept (suc m) (negsuc k) p q = omega (arith, ltb-false m k p)

    go : (m : ℕ) (z : ℤ) (a : Bool) → lt_z z (neg_ℤ (pos m)) ≡ a → (b : Bool) → lt_z (pos m) z ≡ b → nat_abs (cond a (neg_ℤ (pos m)) (cond b (pos m) z)) ≤ m
    go m z true p b q = neg m
    go m z false p true q = omega arith
    go m z false p false q = kept m z p q

su_holds : (n : ℕ) (z : ℤ) → nat_abs z * 2 < 2 ^ n → su_out n z < 2 ^ n
su_holds n (pos m) h = rw (lt-ltb (m * 2) (2 ^ n) h) (omega arith)
su_holds n (negsuc m) h = rw (le-leb (suc m * 2) (2 ^ n) (omega arith)) (omega arith)

above : (n m : ℕ) (z : ℤ) → natural_out n (clip (pos 0) (pos m) z) ≤ m
unfolding clip
above n m z = go z (lt_z z (pos 0)) refl (lt_z (pos m) z) refl
  where
    kept : (z : ℤ) → lt_z z (pos 0) ≡ false → lt_z (pos m) z ≡ false → natural_out n z ≤ m
    kept (pos k) p q = omega (arith, ltb-false m k q)
    kept (negsuc k) p q = let e : ◌≡◌ {A = ℕ} 0 1 = cc in absurd (omega arith)

    go : (z : ℤ) (a : Bool) → lt_z z (pos 0) ≡ a → (b : Bool) → lt_z (pos m) z ≡ b → natural_out n (cond a (pos 0) (cond b (pos m) z)) ≤ m
    go z true p b q = omega arith
    go z false p true q = omega arith
    go z false p false q = kept z p q

-- a number of n bits is not beyond the largest of them
within : (n : ℕ) (z : ℤ) → natural_out n z < 2 ^ n → clip (pos 0) (pos (2 ^ n - 1)) z ≡ z
unfolding clip
within n (pos k) h = rw (le-ltb k 0 (omega arith), le-ltb (2 ^ n - 1) k (omega arith)) refl
within n (negsuc k) h = absurd (omega arith)

-- the limit of each feature is the largest number of its bits
max_is : (j : ℕ) → feature_max j ≡ pos (2 ^ feature_bits j - 1)
max_is j = get_or-map (λ b. pos (2 ^ b - 1)) (8 ∷ 6 ∷ 6 ∷ 6 ∷ 6 ∷ 3 ∷ 0 ∷ 0 ∷ []) j 0

signed_rewrites : (j i : ℕ) → Rewrites Clipped (signed_value (feature_bits j) (feature_max j) i)
unfolding signed_value su
signed_rewrites j i =
    clipped (n + 1) (su_out (n + 1)) (su_in (n + 1)) _ (held j) fits (clip-clip (neg_ℤ (feature_max j)) (feature_max j) (signed_order (feature_max j) (max-plain j))) (su_law (n + 1) feature_data i) (λ z l. go z (numbers.same (held j z) z) refl)
  where
    n : ℕ
    n = feature_bits j

    fits : (z : ℤ) → su_out (n + 1) (held j z) < 2 ^ (n + 1)
    fits z = rw (max_is j) (su_holds (n + 1) (clip (neg_ℤ (pos (2 ^ n - 1))) (pos (2 ^ n - 1)) z) (omega (arith, near (2 ^ n - 1) z, pow_pos n, pow-add 2 n 1)))

    go : (z : ℤ) (t : Bool) → numbers.same (held j z) z ≡ t → Clipped (signed_code j (held j z)) (signed_code j z)
    go z true h = let e : held j z ≡ z = same_is (held j z) z h in rw e (same (signed_code j z))
    go z false h = beyond j z (λ e. let q : ◌≡◌ {A = Bool} true false = sym (same_eq (held j z) z e) ∙ h in let x : ◌≡◌ {A = ℕ} 0 1 = cc in omega arith)

unsigned_rewrites : (j i : ℕ) → Rewrites Clipped (unsigned_value (feature_bits j) (feature_max j) i)
unfolding unsigned_value natural
unsigned_rewrites j i =
    clipped n (natural_out n) pos _ (clip (pos 0) (feature_max j)) fits (clip-clip (pos 0) (feature_max j) (unsigned_order (feature_max j) (max-plain j))) (natural_law n feature_data i) go
  where
    n : ℕ
    n = feature_bits j

    fits : (z : ℤ) → natural_out n (clip (pos 0) (feature_max j) z) < 2 ^ n
    fits z = rw (max_is j) (omega (arith, above n (2 ^ n - 1) z, pow_pos n))

    go : (z : ℤ) → natural_out n z < 2 ^ n → Clipped (to_bits n (natural_out n (clip (pos 0) (feature_max j) z))) (to_bits n (natural_out n z))
    go z h = rw (max_is j, within n z h) (same (to_bits n (natural_out n z)))

value_rewrites : (j i : ℕ) → Rewrites Clipped (feature_value j i)
unfolding feature_value
value_rewrites j i = choose-again clipped_pieces (ltb j 5) (signed_rewrites j i) (unsigned_rewrites j i)

feature_rewrites : (i : ℕ) → Rewrites Clipped (feature i)
unfolding feature
feature_rewrites i = search (agains, clipped_pieces, value_rewrites) depth 12

features_rewrites : Rewrites Clipped features
unfolding features
features_rewrites = via-again clipped_pieces _ _ _ (λ ps. zip-back false (pos 0) ps) (array_again clipped_pieces (false, pos 0) feature feature_rewrites 64 0 64)

no_flags_rewrites : Rewrites Clipped no_flags
unfolding no_flags
no_flags_rewrites = array_again clipped_pieces false _ (λ i. inferred_flag-again clipped_pieces feature_enabled 0 false) 64 0 64

no_data_rewrites : Rewrites Clipped no_data
unfolding no_data
no_data_rewrites = array_again clipped_pieces (pos 0) _ (λ i. inferred_signed-again clipped_pieces feature_data (pos 0)) 64 0 64

features_if_rewrites : (update : Bool) → Rewrites Clipped (features_if update)
unfolding features_if no_features
features_if_rewrites update = search (agains, clipped_pieces, features_rewrites, no_flags_rewrites, no_data_rewrites) depth 12

table_rewrites : (context : SegmentationContext) → Rewrites Clipped (segmentation_table context)
unfolding segmentation_table enabled_params with_reference without_reference coded_updates inferred_updates temporal_update
table_rewrites context = search (agains, clipped_pieces, features_if_rewrites) depth 12

segmentation_rewrites : (context : SegmentationContext) → Rewrites Clipped (segmentation_params context)
unfolding segmentation_params
segmentation_rewrites context = via-again clipped_pieces segmentation_out segmentation_in (segmentation_table context) (λ a. refl) (table_rewrites context)

pub segmentation-over_and_back : (context : SegmentationContext) → OverAndBack Clipped (segmentation_params context)
segmentation-over_and_back context = over_and_back _ (segmentation_law context) (segmentation_rewrites context) (segmentation-ends context)
