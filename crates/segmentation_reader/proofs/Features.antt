-- How the features are read, one behind the other, and what is stored where they are clear.
use mathlib.Core.Path.{◌≡◌, refl, ap, ◌∙◌}
use mathlib.Core.List.{List}
use mathlib.Core.Bool.{false}
use Prim.Native.Nat.{ℕ, suc, ◌+◌, ◌-◌, ◌<◌, ◌≤◌}
use native.Mathlib.Omega.{arith}
use lib.Dec.{lit≤}
use lib.IntN.{ℤ, pos}
use lib.ListN.{set, replicate}
use borrow.Author.Tests.{lt-ltb}
use mir.Syntax.{w32}
use mir.Val.{to_z, of_z}
use mir.Facts.{to_z-of_z}
use Rattle.std.specs.Prelude.{Result, Ok, Err, IsErrAnd}
use Rattle.bits.specs.Codec.{absent, array, choose, inferred_flag, via, ◌▷◌, Nil, nil}
use Rattle.bits.specs.Codes.{su}
use Rattle.bits.specs.declared.answer.Refusal.{Refusal}
use Rattle.reader.specs.declared.BitReader.{BitReader}
use Rattle.reader.specs.Reading.{Said}
use Rattle.reader.proofs.Reading.{By, by, read_by, fixed}
use Rattle.fill.specs.Fills.{same, at, each, nowhere, of, ◌▸◌, Fills}
use Rattle.fill.proofs.Filling.{Laid, begin, struct, put_last, settled, group_on}
use Rattle.fill.proofs.Signs.{signed_fillings}
use Rattle.fill.proofs.Looping.{Rest, rest_all, rest_halt, rest_end}
use Rattle.parts.specs.Codes.{inferred_signed, trimmed, zip}
use Rattle.parts.specs.Codes as codes
use Rattle.parts.proofs.Pairs.{zip-back}
use Rattle.segmentation.specs.Segmentation.{signed_value, unsigned_value, feature_value, feature, features, no_flags, no_data, no_features, none}
use Rattle.segmentation_reader.specs.Layout.{feature_place, features_place}
use Rattle.segmentation_reader.proofs.Values.{value_fits}

-- a value is read whatever its index
module _ (j i : ℕ) where
  by_value : By (feature_value j i) (feature_value j 0).dec
  unfolding feature_value signed_value unsigned_value trimmed codes.natural su choose
  by_value = by (λ bs. refl)

  pub value_of : {p q : BitReader} {r : Result ℤ Refusal} → Said (feature_value j 0).dec p q r → Said (feature_value j i).dec p q r
  value_of s = read_by (feature_value j i) s by_value

module _ (j i o : ℕ) {p q : BitReader} {m z : List ℤ} {v : ℤ} where
  pub put_value : Said (feature_value j 0).dec p q (Ok v) → z ≡ set m o (to_z w32 (of_z w32 v)) → Laid (at (pos 0) o same) (feature_value j i) p q (Ok nil) m z
  put_value s e = put_last (pos 0) o same (feature_value j i) (value_of j i s) (e ∙ ap (set m o) (to_z-of_z (value_fits j 0 s)))

-- the loop over the features
abbrev pub Left : BitReader → List ℤ → BitReader → List ℤ → ℕ → Type 0
Left old m₀ p m i = Rest (false, pos 0) feature_place feature 64 64 old m₀ p m i

pub features_start : {p : BitReader} {m : List ℤ} → Left p m p m 0
features_start = rest_all (lit≤ tt)

module _ {old p : BitReader} {m₀ m : List ℤ} {i : ℕ} (r : Left old m₀ p m i) where
  pub features_halt : i < 64 → {q : BitReader} {g : Result Nil Refusal} {o z : List ℤ} {y : Refusal} → Fills (feature_place i) (feature i).dec p q (Err y) m o → IsErrAnd g (λ z. z ≡ y) → Fills features_place features.dec old q g m₀ z
  unfolding features features_place
  features_halt h f e = begin _ (struct _ _ _ _ (zip-back false (pos 0)) (rest_halt r h f e))

  pub features_end : 64 ≤ i → Fills features_place features.dec old p (Ok nil) m₀ m
  unfolding features features_place
  features_end h = begin _ (struct _ _ _ _ (zip-back false (pos 0)) (rest_end r h))

-- the loop that clears them
pub record Clearing (m₀ m : List ℤ) (i : ℕ) : Type 0 where
  pub most : i ≤ 64
  pub rest : (each (false, pos 0) feature_place (64 - i) i 64).put (replicate (64 - i) (false, pos 0)) m ≡ features_place.put none.1 m₀

pub clearing_all : {m : List ℤ} → Clearing m m 0
unfolding features_place of zip
clearing_all = record { most = omega arith; rest = refl }

module _ {m₀ m : List ℤ} {i : ℕ} (r : Clearing m₀ m i) where
  pub clearing_on : i < 64 → Clearing m₀ (set (set m (5 + i) (pos 0)) (69 + i) (pos 0)) (i + 1)
  unfolding each of ◌▸◌ feature_place at
  clearing_on h =
      let b : 64 - i ≡ suc (64 - (i + 1)) = omega arith in
      let w : i + 1 ≡ suc i = omega arith in
      record { most = omega arith; rest = rw (b, lt-ltb i 64 h, ← w) at r.rest }

  pub clearing_end : 64 ≤ i → m ≡ features_place.put none.1 m₀
  unfolding each nowhere
  clearing_end h = let b : 64 - i ≡ 0 = omega arith in rw b at r.rest

-- clear features, that are not coded
pub no_features_laid : {p : BitReader} {m z : List ℤ} → z ≡ features_place.put none.1 m → Laid features_place no_features p p (Ok nil) m z
unfolding no_features no_flags no_data array via ◌▷◌ choose inferred_flag inferred_signed absent
no_features_laid e = settled no_features none.1 (fixed (λ bs. refl)) e

pub ruleset feature_fillings = (signed_fillings, group_on, value_of, put_value, no_features_laid, features_start, features_halt, features_end, clearing_all, clearing_on, clearing_end)
