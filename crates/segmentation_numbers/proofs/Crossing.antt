-- The part is written as its numbers say.
use mathlib.Core.Path.{◌≡◌, ◌∙◌}
use mathlib.Core.List.{List}
use Prim.Native.Nat.{ℕ}
use lib.IntN.{ℤ}
use Rattle.bits.specs.Walk.{run}
use Rattle.bits.specs.Written.{Answer}
use Rattle.parts.specs.Written.{Writes}
use Rattle.segmentation.specs.Segmentation as segmentation
use Rattle.segmentation.specs.declared.record.SegmentationParams.{SegmentationParams}
use Rattle.segmentation.specs.declared.record.SegmentationContext.{SegmentationContext}
use Rattle.numbers.proofs.Writing.{written_as}
use Rattle.segmentation_numbers.specs.Numbers.{segmentation_context, segmentation_params, segmentation_walk}
use Rattle.segmentation_numbers.specs.Held.{held_segmentation}
use Rattle.segmentation_numbers.proofs.Given.{segmentation-given}

pub segmentation_crosses : {place : ℕ} {out end : List ℕ} {r : Answer} (xs : List ℤ) {p : SegmentationParams} {k : SegmentationContext} → p ≡ held_segmentation (segmentation_params xs) → k ≡ segmentation_context xs
    → Writes ((segmentation.segmentation_params k).enc p) place out r end → Writes (segmentation_walk xs) place out r end
segmentation_crosses xs e f w = written_as ((λ i. run ((segmentation.segmentation_params (f i)).enc (e i))) ∙ segmentation-given (segmentation_params xs) (segmentation_context xs)) w
