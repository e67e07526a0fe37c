-- The table of 5.9.14 keeps the laws: a value reads back as it was clipped.
use mathlib.Core.Path.{◌≡◌, refl}
use mathlib.Core.Bool.{Bool, false}
use Prim.Native.Nat.{ℕ, ◌+◌, ◌<◌, ◌^◌}
use native.Mathlib.Omega.{arith}
use lib.Dec.{ltb}
use lib.IntN.{ℤ, pos, negsuc, neg_ℤ}
use lib.Signed.{◌≤ℤ◌}
use Rattle.bits.specs.Widths.{bit_length}
use Rattle.bits.specs.Codes.{su}
use Rattle.bits.specs.Elements.{feature_enabled, feature_data}
use Rattle.bits.specs.Lawful.{loose, Lawful}
use Rattle.bits.specs.declared.answer.Refusal.TheVariants.{Unfit}
use Rattle.bits.proofs.Laws.{via_law, choose_law}
use Rattle.bits.proofs.Leaves.{codec_laws, field_as_law, inferred_flag_law, array_law}
use Rattle.bits.proofs.CodeLaws.{su_law}
use Rattle.parts.specs.Codes.{natural_out, natural, clip}
use Rattle.segmentation.specs.Segmentation.{feature_bits, feature_max, signed_value, unsigned_value, feature_value, feature, features, no_flags, no_data, no_features, features_if, temporal_update, coded_updates, inferred_updates, with_reference, without_reference, enabled_params, segmentation_table, segmentation_out, segmentation_in, segmentation_params}
use Rattle.segmentation.specs.declared.record.SegmentationContext.{SegmentationContext}
use Rattle.parts.proofs.Pairs.{zip-back}
use Rattle.parts.proofs.Laws.{inferred_signed_law, trimmed_law}
use Rattle.segmentation.proofs.Clipping.{clip-clip, signed_order, unsigned_order}
use Rattle.segmentation.proofs.Steps.{max-plain}

natural_there : (n : ℕ) (z : ℤ) → natural_out n z < 2 ^ n → pos (natural_out n z) ≡ z
natural_there n (pos m) h = refl
natural_there n (negsuc m) h = absurd (omega arith)

pub natural_law : (n e i : ℕ) → Lawful loose (natural n e i)
unfolding natural
natural_law n e i = field_as_law n (natural_out n) pos (λ z. Unfit e i (bit_length (natural_out n z))) (λ v h. refl) (natural_there n)

signed_law : (n : ℕ) (limit : ℤ) (i : ℕ) → pos 0 ≤ℤ limit → Lawful loose (signed_value n limit i)
unfolding signed_value su
signed_law n limit i h = trimmed_law (clip (neg_ℤ limit) limit) (su_law (n + 1) feature_data i) (λ z. refl) (clip-clip (neg_ℤ limit) limit (signed_order limit h))

unsigned_law : (n : ℕ) (limit : ℤ) (i : ℕ) → pos 0 ≤ℤ limit → Lawful loose (unsigned_value n limit i)
unfolding unsigned_value natural
unsigned_law n limit i h = trimmed_law (clip (pos 0) limit) (natural_law n feature_data i) (λ z. refl) (clip-clip (pos 0) limit (unsigned_order limit h))

value_law : (j i : ℕ) → Lawful loose (feature_value j i)
unfolding feature_value
value_law j i = choose_law (ltb j 5) (signed_law (feature_bits j) (feature_max j) i (max-plain j)) (unsigned_law (feature_bits j) (feature_max j) i (max-plain j))

feature_law : (i : ℕ) → Lawful loose (feature i)
unfolding feature
feature_law i = search (codec_laws, value_law) depth 12

features_law : Lawful loose features
unfolding features
features_law = via_law _ _ (array_law (false, pos 0) feature feature_law 64 0 64) (λ ps. zip-back false (pos 0) ps)

no_flags_law : Lawful loose no_flags
unfolding no_flags
no_flags_law = array_law false _ (λ i. inferred_flag_law feature_enabled 0 false) 64 0 64

no_data_law : Lawful loose no_data
unfolding no_data
no_data_law = array_law (pos 0) _ (λ i. inferred_signed_law feature_data (pos 0)) 64 0 64

features_if_law : (update : Bool) → Lawful loose (features_if update)
unfolding features_if no_features
features_if_law update = search (codec_laws, features_law, no_flags_law, no_data_law) depth 12

temporal_law : (map : Bool) → Lawful loose (temporal_update map)
unfolding temporal_update
temporal_law map = search codec_laws depth 12

coded_law : Lawful loose coded_updates
unfolding coded_updates
coded_law = search (codec_laws, temporal_law) depth 12

inferred_law : Lawful loose inferred_updates
unfolding inferred_updates
inferred_law = search codec_laws depth 12

enabled_law : (primary : ℕ) → Lawful loose (enabled_params primary)
unfolding enabled_params with_reference without_reference
enabled_law primary = search (codec_laws, coded_law, inferred_law, features_if_law) depth 12

table_law : (context : SegmentationContext) → Lawful loose (segmentation_table context)
unfolding segmentation_table
table_law context = search (codec_laws, enabled_law) depth 12

pub segmentation_law : (context : SegmentationContext) → Lawful loose (segmentation_params context)
unfolding segmentation_params
segmentation_law context = via_law segmentation_out segmentation_in (table_law context) (λ a. refl)
