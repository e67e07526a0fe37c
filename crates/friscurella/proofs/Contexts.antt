-- The numbers of a context are that context, to the part's writer for numbers, whatever numbers of its record stand behind them.
use mathlib.Core.Path.{◌≡◌, refl}
use mathlib.Core.Bool.{Bool, true, false, not}
use mathlib.Core.List.{List, ◌∷◌, ◌++◌}
use lib.IntN.{ℤ, pos}
use Rattle.parts.specs.Codes.{same}
use Rattle.quantization.specs.declared.record.QuantizationContext.{QuantizationContext}
use Rattle.loop_filter.specs.declared.record.LoopFilterContext.{LoopFilterContext}
use Rattle.cdef.specs.declared.record.CdefContext.{CdefContext}
use Rattle.restoration.specs.declared.record.LoopRestorationContext.{LoopRestorationContext}
use Rattle.quantization_numbers.specs.Numbers.{quantization_context}
use Rattle.segmentation_numbers.specs.Numbers.{segmentation_context}
use Rattle.loop_filter_numbers.specs.Numbers.{loop_filter_context}
use Rattle.cdef_numbers.specs.Numbers.{cdef_context}
use Rattle.restoration_numbers.specs.Numbers.{lr_context}
use Rattle.numbers.specs.Numbers.{natural}
use Rattle.contexts.specs.Contexts as contexts
use Rattle.contexts.specs.Numbers.{bit, quantization_numbers, loop_filter_numbers, cdef_numbers, lr_numbers}

set : (b : Bool) → not (same (bit b) (pos 0)) ≡ b
set true = refl
set false = refl

module _ (rest : List ℤ) where
  pub quantization_crosses : (c : QuantizationContext) → quantization_context (quantization_numbers c ++ rest) ≡ c
  quantization_crosses c = λ i. record { planes = c.planes; separate_uv_delta_q = set c.separate_uv_delta_q i }

  pub segmentation_crosses : (primary : ℤ) → segmentation_context (primary ∷ rest) ≡ contexts.segmentation_context (natural primary)
  segmentation_crosses primary = refl

  pub loop_filter_crosses : (c : LoopFilterContext) → loop_filter_context (loop_filter_numbers c ++ rest) ≡ c
  loop_filter_crosses c = λ i. record { coded_lossless = set c.coded_lossless i; allow_intrabc = set c.allow_intrabc i; planes = c.planes }

  pub cdef_crosses : (c : CdefContext) → cdef_context (cdef_numbers c ++ rest) ≡ c
  cdef_crosses c = λ i. record {
    coded_lossless = set c.coded_lossless i;
    allow_intrabc = set c.allow_intrabc i;
    enable_cdef = set c.enable_cdef i;
    planes = c.planes;
  }

  pub lr_crosses : (c : LoopRestorationContext) → lr_context (lr_numbers c ++ rest) ≡ c
  lr_crosses c = λ i. record {
    all_lossless = set c.all_lossless i;
    allow_intrabc = set c.allow_intrabc i;
    enable_restoration = set c.enable_restoration i;
    planes = c.planes;
    use_128x128_superblock = set c.use_128x128_superblock i;
    subsampling_x = set c.subsampling_x i;
    subsampling_y = set c.subsampling_y i;
  }
