-- Segmentation parameters whose values are held in 16 bits are written as those given: a value is clipped to its limit, or must be 0.
use mathlib.Core.Path.{◌≡◌, refl}
use mathlib.Core.List.{List, [], ◌∷◌}
use mathlib.Core.Bool.{Bool, false}
use Prim.Native.Nat.{ℕ, ◌+◌, ◌%◌, ◌≤◌}
use native.Mathlib.Omega.{arith}
use lib.Dec.{ltb, eqb}
use lib.IntN.{ℤ, pos}
use Rattle.bits.specs.Walk.{run}
use Rattle.bits.specs.Codes.{su}
use Rattle.bits.specs.Elements.{feature_data}
use Rattle.parts.specs.Codes.{natural, zip, firsts, seconds}
use Rattle.segmentation.specs.declared.record.SegmentationParams.{SegmentationParams}
use Rattle.segmentation.specs.declared.record.SegmentationContext.{SegmentationContext}
use Rattle.segmentation.specs.Segmentation as segmentation
use Rattle.segmentation.specs.Segmentation.{feature_bits, feature_max, signed_value, unsigned_value, feature_value, feature, features, no_data, no_features, features_if, with_reference, without_reference, enabled_params, segmentation_table, features_out, segmentation_out, segmentation_in, segmentation_params}
use Rattle.numbers.specs.Held.{int16}
use Rattle.segmentation_numbers.specs.Held.{held_segmentation}
use Rattle.numbers.proofs.Alike.{Alike, equal, itself, both, chosen, nothing, through, Each, none, more, mapped, listed, last, next, entry}
use Rattle.numbers.proofs.Near as near
use Rattle.numbers.proofs.Near.{NearZ, clip_near, looked_for, clipped, clipped_plain}

data Limit : ℤ → Type 0 where
  limit : (n : ℕ) → n ≤ 255 → Limit (pos n)

limits : (j : ℕ) → Limit (feature_max j)
limits = entry Limit (pos 0) zero (next (limit 255 (omega arith)) (next six (next six (next six (next six (next (limit 7 (omega arith)) (next zero (next zero last))))))))
  where
    zero : Limit (pos 0)
    zero = limit 0 (omega arith)

    six : Limit (pos 63)
    six = limit 63 (omega arith)

module _ {y z : ℤ} (near : NearZ 32767 y z) (bits i : ℕ) where
  with_sign : {l : ℤ} → Limit l → Alike (signed_value bits l i) y z
  unfolding signed_value
  with_sign (limit n h) = clipped (su (bits + 1) feature_data i) n 32767 (omega arith) near

  without_sign : {l : ℤ} → Limit l → Alike (unsigned_value bits l i) y z
  unfolding unsigned_value
  without_sign (limit n h) = clipped_plain (natural bits feature_data i) n 32767 (omega arith) near

value : {y z : ℤ} (j i : ℕ) → NearZ 32767 y z → Alike (feature_value j i) y z
unfolding feature_value
value j i near = chosen (ltb j 5) (with_sign near (feature_bits j) i (limits j)) (without_sign near (feature_bits j) i (limits j))

-- a flag and a value
abbrev Feature : Bool × ℤ → Bool × ℤ → Type 0
Feature p q = (p.0 ≡ q.0) × NearZ 32767 p.1 q.1

one : (i : ℕ) (p q : Bool × ℤ) → Feature p q → Alike (feature i) p q
unfolding feature
one i p q r = both (equal r.0) (λ t. chosen t (value (i % 8) i r.1) (nothing (pos 0) _ _))

zipped : {xs ys : List ℤ} (bs : List Bool) → Each (NearZ 32767) xs ys → Each Feature (zip false (pos 0) bs xs) (zip false (pos 0) bs ys)
unfolding zip
zipped [] none = none
zipped [] (more r rs) = more (refl, r) (zipped [] rs)
zipped (b ∷ bs) none = more (refl, near.alone) (zipped bs none)
zipped (b ∷ bs) (more r rs) = more (refl, r) (zipped bs rs)

module _ (p : SegmentationParams) where
  abbrev held : SegmentationParams
  held = held_segmentation p

  values : Each (NearZ 32767) held.feature_data p.feature_data
  values = mapped int16 (clip_near 32767) p.feature_data

  coded : Alike features (features_out held) (features_out p)
  unfolding features
  coded = through (λ p. zip false (pos 0) p.0 p.1) (λ ps. (firsts ps, seconds ps)) (listed (false, pos 0) feature one 64 0 64 (zipped p.feature_enabled values))

  clear : Alike no_features (features_out held) (features_out p)
  unfolding no_features no_data
  clear = both itself (λ _. listed (pos 0) _ (λ i y z near. looked_for feature_data 32767 (pos 0) (omega arith) near) 64 0 64 values)

  if : (update : Bool) → Alike (features_if update) (features_out held) (features_out p)
  unfolding features_if
  if update = chosen update coded clear

  whole : (k : SegmentationContext) → Alike (segmentation_params k) held p
  unfolding segmentation_params segmentation_table enabled_params without_reference with_reference
  whole k =
      through segmentation_out segmentation_in (both itself (λ enabled.
      chosen enabled (chosen (eqb k.primary_ref_frame 7) (both itself (λ updates. if updates.1.1)) (both itself (λ updates. if updates.1.1))) (nothing segmentation.none _ _)))

  pub segmentation-given : (k : SegmentationContext) → run ((segmentation_params k).enc (held_segmentation p)) ≡ run ((segmentation_params k).enc p)
  segmentation-given k = (whole k).runs
