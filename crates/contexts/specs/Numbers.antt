-- The numbers of a context, in the order of the part's record, which begins with them.
use Rattle.std.specs.Prelude.{Bool, List, [], ◌∷◌, ℤ, pos}
use mir.Val.{bool_byte}
use Rattle.quantization.specs.declared.record.QuantizationContext.{QuantizationContext}
use Rattle.loop_filter.specs.declared.record.LoopFilterContext.{LoopFilterContext}
use Rattle.cdef.specs.declared.record.CdefContext.{CdefContext}
use Rattle.restoration.specs.declared.record.LoopRestorationContext.{LoopRestorationContext}

abbrev pub bit : Bool → ℤ
bit b = pos (bool_byte b)

abbrev pub quantization_numbers : QuantizationContext → List ℤ
quantization_numbers c = pos c.planes ∷ bit c.separate_uv_delta_q ∷ []

abbrev pub loop_filter_numbers : LoopFilterContext → List ℤ
loop_filter_numbers c = bit c.coded_lossless ∷ bit c.allow_intrabc ∷ pos c.planes ∷ []

abbrev pub cdef_numbers : CdefContext → List ℤ
cdef_numbers c = bit c.coded_lossless ∷ bit c.allow_intrabc ∷ bit c.enable_cdef ∷ pos c.planes ∷ []

abbrev pub lr_numbers : LoopRestorationContext → List ℤ
lr_numbers c =
    bit c.all_lossless ∷ bit c.allow_intrabc ∷ bit c.enable_restoration ∷ pos c.planes ∷
    bit c.use_128x128_superblock ∷ bit c.subsampling_x ∷ bit c.subsampling_y ∷
    []
