-- 5.9.20: the parameters of loop restoration. Each table is the contract of the writer's function of its name.
use Rattle.std.specs.Prelude.{[], ◌∷◌, Bool, false, cond, not, ◌&&◌, ◌||◌, ℕ, ◌+◌, ◌-◌, eqb, ltb, get_or}
use Rattle.bits.specs.Codec.{Codec, field_as, f, flag, absent, inferred, inferred_flag, choose, checked, merged, via, ◌▷◌}
use Rattle.bits.specs.Elements.{frame_restoration_type, uses_lr, uses_chroma_lr, lr_unit_shift, lr_uv_shift}
use Rattle.bits.specs.declared.answer.Refusal.TheVariants.{Inconsistent, Unfit}
use Rattle.restoration.specs.declared.record.LoopRestorationParams.{LoopRestorationParams}
use Rattle.restoration.specs.declared.record.LoopRestorationContext.{LoopRestorationContext}

-- with large superblocks the shift is 1 or 2, and coded less 1; 0 is forbidden, and goes to 2, which one bit does not hold. No width helps a larger one, and
-- its refusal says 0.
abbrev pub large_out : ℕ → ℕ
large_out v = cond (eqb v 0) 2 (v - 1)

abbrev pub large_in : ℕ → ℕ
large_in v = v + 1

unfoldable pub large_shift : Codec ℕ
large_shift = checked (λ v. not (eqb v 0)) (Inconsistent lr_unit_shift 0) (field_as 1 large_out large_in (λ _. Unfit lr_unit_shift 0 0))

-- with small ones it is 0, 1 or 2: the bits 0, 10 and 11
abbrev pub small_out : ℕ → Bool × ℕ
small_out v = (ltb 0 v, v - 1)

abbrev pub small_in : Bool × ℕ → ℕ
small_in p = cond p.0 (p.1 + 1) 0

unfoldable pub small_shift : Codec ℕ
small_shift = merged small_out small_in (flag ▷ λ more. choose more (field_as 1 (λ v. v) (λ v. v) (λ _. Unfit lr_unit_shift 0 0)) (absent 0))

unfoldable pub unit_shift : Bool → Codec ℕ
unit_shift large = choose large large_shift small_shift

unfoldable pub uv_shift : Bool → Codec ℕ
uv_shift coded = choose coded (f 1 lr_uv_shift 0) (inferred lr_uv_shift 0 0)

unfoldable pub shifts : LoopRestorationContext → Bool → Codec (ℕ × ℕ)
shifts context chroma =
    unit_shift context.use_128x128_superblock ▷ λ _.
    uv_shift (context.subsampling_x && context.subsampling_y && chroma)

-- whether a plane is restored, from the luma kind and from chroma; and chroma, from its two kinds
abbrev pub used : ℕ → Bool → Bool
used y chroma = not (eqb y 0) || chroma

abbrev pub chroma_used : ℕ → ℕ → Bool
chroma_used u v = not (eqb u 0) || not (eqb v 0)

abbrev pub Uses : Type 0
Uses = Bool × (Bool × (ℕ × ℕ))

unfoldable pub uses : LoopRestorationContext → Bool → Bool → Codec Uses
uses context restored chroma =
    inferred_flag uses_lr 0 restored ▷ λ _.
    inferred_flag uses_chroma_lr 0 chroma ▷ λ _.
    choose restored (shifts context chroma) (absent (0, 0))

-- the kinds of the planes: none 0, switchable 1, Wiener 2, self-guided 3
abbrev pub Kinds : Type 0
Kinds = ℕ × (ℕ × ℕ)

unfoldable pub kinds : Codec Kinds
kinds =
    f 2 frame_restoration_type 0 ▷ λ _.
    f 2 frame_restoration_type 1 ▷ λ _.
    f 2 frame_restoration_type 2

unfoldable pub three_planes : LoopRestorationContext → Codec (Kinds × Uses)
three_planes context = kinds ▷ λ (y, (u, v)). uses context (used y (chroma_used u v)) (chroma_used u v)

unfoldable pub one_kind : Codec Kinds
one_kind = f 2 frame_restoration_type 0 ▷ λ _. absent (0, 0)

unfoldable pub one_plane : LoopRestorationContext → Codec (Kinds × Uses)
one_plane context = one_kind ▷ λ (y, _). uses context (used y false) false

unfoldable pub no_kinds : Codec Kinds
no_kinds =
    inferred frame_restoration_type 0 0 ▷ λ _.
    inferred frame_restoration_type 0 0 ▷ λ _.
    inferred frame_restoration_type 0 0

unfoldable pub no_planes : Codec (Kinds × Uses)
no_planes =
    no_kinds ▷ λ _.
    inferred_flag uses_lr 0 false ▷ λ _.
    absent (false, (0, 0))

unfoldable pub lr_table : LoopRestorationContext → Codec (Kinds × Uses)
lr_table context =
    choose (context.all_lossless || context.allow_intrabc || not context.enable_restoration) no_planes
    (choose (eqb context.planes 1) (one_plane context) (three_planes context))

-- the record for its table
abbrev pub kinds_out : LoopRestorationParams → Kinds
kinds_out p = (get_or p.frame_restoration_type 0 0, (get_or p.frame_restoration_type 1 0, get_or p.frame_restoration_type 2 0))

abbrev pub shifts_out : LoopRestorationParams → ℕ × ℕ
shifts_out p = (p.lr_unit_shift, p.lr_uv_shift)

abbrev pub uses_out : LoopRestorationParams → Uses
uses_out p = (p.uses_lr, (p.uses_chroma_lr, shifts_out p))

abbrev pub lr_out : LoopRestorationParams → Kinds × Uses
lr_out p = (kinds_out p, uses_out p)

abbrev pub lr_in : Kinds × Uses → LoopRestorationParams
lr_in = λ ((y, (u, v)), (restored, (chroma, (unit, uv)))). record {
  frame_restoration_type = y ∷ u ∷ v ∷ [];
  uses_lr = restored;
  uses_chroma_lr = chroma;
  lr_unit_shift = unit;
  lr_uv_shift = uv;
}

unfoldable pub lr_params : LoopRestorationContext → Codec LoopRestorationParams
lr_params context = via lr_out lr_in (lr_table context)
