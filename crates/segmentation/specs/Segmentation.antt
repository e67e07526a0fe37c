-- 5.9.14: the segmentation parameters. Each table is the contract of the function of its name, the writer's or the reader's.
use Rattle.std.specs.Prelude.{List, [], ◌∷◌, Bool, true, false, ℕ, ◌+◌, ◌%◌, eqb, ltb, get_or, replicate, ℤ, pos, neg_ℤ}
use Rattle.bits.specs.Codec.{Codec, flag, absent, inferred_flag, choose, via, array, ◌▷◌}
use Rattle.bits.specs.Codes.{su}
use Rattle.bits.specs.Elements.{segmentation_update_map, segmentation_temporal_update, segmentation_update_data, feature_enabled, feature_data}
use Rattle.parts.specs.Codes.{inferred_signed, natural, clip, trimmed, zip, firsts, seconds}
use Rattle.segmentation.specs.declared.record.SegmentationParams.{SegmentationParams}
use Rattle.segmentation.specs.declared.record.SegmentationContext.{SegmentationContext}

-- the bits and the limit of each of the eight features; the first five are signed
abbrev pub feature_bits : ℕ → ℕ
feature_bits j = get_or (8 ∷ 6 ∷ 6 ∷ 6 ∷ 6 ∷ 3 ∷ 0 ∷ 0 ∷ []) j 0

abbrev pub feature_max : ℕ → ℤ
feature_max j = get_or (pos 255 ∷ pos 63 ∷ pos 63 ∷ pos 63 ∷ pos 63 ∷ pos 7 ∷ pos 0 ∷ pos 0 ∷ []) j (pos 0)

-- values are clipped to their limit
unfoldable pub signed_value : ℕ → ℤ → ℕ → Codec ℤ
signed_value bits limit i = trimmed (clip (neg_ℤ limit) limit) (su (bits + 1) feature_data i)

unfoldable pub unsigned_value : ℕ → ℤ → ℕ → Codec ℤ
unsigned_value bits limit i = trimmed (clip (pos 0) limit) (natural bits feature_data i)

unfoldable pub feature_value : ℕ → ℕ → Codec ℤ
feature_value j i = choose (ltb j 5) (signed_value (feature_bits j) (feature_max j) i) (unsigned_value (feature_bits j) (feature_max j) i)

-- place i is feature i % 8 of segment i / 8
unfoldable pub feature : ℕ → Codec (Bool × ℤ)
feature i = flag ▷ λ enabled. choose enabled (feature_value (i % 8) i) (absent (pos 0))

abbrev pub Features : Type 0
Features = List Bool × List ℤ

unfoldable pub features : Codec Features
features = via (λ p. zip false (pos 0) p.0 p.1) (λ ps. (firsts ps, seconds ps)) (array (false, pos 0) feature 64 0 64)

-- without new data all features are clear
unfoldable pub no_flags : Codec (List Bool)
no_flags = array false (λ _. inferred_flag feature_enabled 0 false) 64 0 64

unfoldable pub no_data : Codec (List ℤ)
no_data = array (pos 0) (λ _. inferred_signed feature_data (pos 0)) 64 0 64

unfoldable pub no_features : Codec Features
no_features = no_flags ▷ λ _. no_data

unfoldable pub features_if : Bool → Codec Features
features_if update = choose update features no_features

-- update_map, temporal_update and update_data
abbrev pub Updates : Type 0
Updates = Bool × (Bool × Bool)

unfoldable pub temporal_update : Bool → Codec Bool
temporal_update map = choose map flag (absent false)

unfoldable pub coded_updates : Codec Updates
coded_updates =
    flag ▷ λ map.
    temporal_update map ▷ λ _.
    flag

unfoldable pub inferred_updates : Codec Updates
inferred_updates =
    inferred_flag segmentation_update_map 0 true ▷ λ _.
    inferred_flag segmentation_temporal_update 0 false ▷ λ _.
    inferred_flag segmentation_update_data 0 true

unfoldable pub with_reference : Codec (Updates × Features)
with_reference = coded_updates ▷ λ (_, (_, update)). features_if update

unfoldable pub without_reference : Codec (Updates × Features)
without_reference = inferred_updates ▷ λ (_, (_, update)). features_if update

-- primary_ref_frame 7 is none
unfoldable pub enabled_params : ℕ → Codec (Updates × Features)
enabled_params primary = choose (eqb primary 7) without_reference with_reference

abbrev pub none : Updates × Features
none = ((false, (false, false)), (replicate 64 false, replicate 64 (pos 0)))

unfoldable pub segmentation_table : SegmentationContext → Codec (Bool × (Updates × Features))
segmentation_table context = flag ▷ λ enabled. choose enabled (enabled_params context.primary_ref_frame) (absent none)

-- the record for its table
abbrev pub updates_out : SegmentationParams → Updates
updates_out p = (p.segmentation_update_map, (p.segmentation_temporal_update, p.segmentation_update_data))

abbrev pub features_out : SegmentationParams → Features
features_out p = (p.feature_enabled, p.feature_data)

abbrev pub enabled_out : SegmentationParams → Updates × Features
enabled_out p = (updates_out p, features_out p)

abbrev pub segmentation_out : SegmentationParams → Bool × (Updates × Features)
segmentation_out p = (p.segmentation_enabled, enabled_out p)

abbrev pub segmentation_in : Bool × (Updates × Features) → SegmentationParams
segmentation_in = λ (enabled, ((map, (temporal, update)), (flags, values))). record {
  segmentation_enabled = enabled;
  segmentation_update_map = map;
  segmentation_temporal_update = temporal;
  segmentation_update_data = update;
  feature_enabled = flags;
  feature_data = values;
}

unfoldable pub segmentation_params : SegmentationContext → Codec SegmentationParams
segmentation_params context = via segmentation_out segmentation_in (segmentation_table context)
