-- The most bits of the segmentation parameters. The bound takes a feature without a sign for one with: it has 24 too many.
use mathlib.Core.Path.{refl}
use mathlib.Core.Bool.{Bool, false}
use Prim.Native.Nat.{ℕ, ◌+◌, ◌%◌}
use native.Mathlib.Omega.{arith}
use lib.IntN.{ℤ, pos}
use lib.Dec.{lit≤, ltb, eqb}
use Rattle.bits.specs.Walk.{bound}
use Rattle.bits.specs.Codec.{◌▷◌, choose, via, array, f, flag, absent, inferred_flag}
use Rattle.bits.specs.Codes.{su}
use Rattle.parts.specs.Codes.{inferred_signed, natural, trimmed, zip}
use Rattle.segmentation.specs.Packed.{value_bits}
use Rattle.segmentation.specs.Segmentation.{Features, features_out, signed_value, unsigned_value, feature_value, feature, features, no_flags, no_data, no_features, features_if, temporal_update, coded_updates, inferred_updates, with_reference, without_reference, enabled_params, segmentation_table, segmentation_params}
use Rattle.segmentation.specs.declared.record.SegmentationParams.{SegmentationParams}
use Rattle.segmentation.specs.declared.record.SegmentationContext.{SegmentationContext}
use Rattle.bits.proofs.Counting.{Few, few_by, few_then, few_known, few-either, array-few, unshort, Within}

pub within : (context : SegmentationContext) (p : SegmentationParams) → Within 412 ((segmentation_params context).enc p)
unfolding bound unshort signed_value unsigned_value feature_value feature features no_flags no_data no_features features_if temporal_update coded_updates inferred_updates with_reference without_reference enabled_params segmentation_table segmentation_params inferred_signed natural trimmed su ◌▷◌ choose via array f flag absent inferred_flag
within context p = record { most = lit≤ tt; own = refl }

-- Feature by feature
feature-few : (i : ℕ) (v : Bool × ℤ) → Few (1 + value_bits (i % 8)) ((feature i).enc v)
unfolding feature feature_value signed_value unsigned_value natural trimmed su flag absent ◌▷◌ choose bound
feature-few i v = few_then (few_by (lit≤ tt)) (few-either v.0 (few_known (ltb (i % 8) 5) (few_by (omega arith)) (few_by (omega arith))) (few_by (omega arith)))

features-few : (update : Bool) (v : Features) → Few 384 ((features_if update).enc v)
unfolding features_if features no_features no_flags no_data inferred_flag inferred_signed absent array via ◌▷◌ choose bound
features-few update v = few-either update (array-few (false, pos 0) feature (λ i. 1 + value_bits (i % 8)) feature-few 64 0 64 (zip false (pos 0) v.0 v.1)) (few_by (lit≤ tt))

pub few : (context : SegmentationContext) (p : SegmentationParams) → Few 388 ((segmentation_params context).enc p)
unfolding segmentation_params segmentation_table enabled_params with_reference without_reference coded_updates inferred_updates temporal_update inferred_flag flag absent via ◌▷◌ choose bound
few context p =
    few_then {n = 1} (few_by (lit≤ tt)) (few-either p.segmentation_enabled
    (few-either (eqb context.primary_ref_frame 7)
    (few_then {n = 3} (few_by (lit≤ tt)) (features-few _ (features_out p)))
    (few_then {n = 3} (few_by (lit≤ tt)) (features-few _ (features_out p))))
    (few_by (lit≤ tt)))
