-- The record, field by field.
use mathlib.Core.Path.{◌≡◌}
use mathlib.Core.List.{List}
use mathlib.Core.Bool.{Bool}
use Prim.Native.Nat.{ℕ}
use lib.IntN.{ℤ}
use Rattle.restoration.specs.declared.record.LoopRestorationContext.{LoopRestorationContext}
use Rattle.restoration.specs.declared.record.LoopRestorationParams.{LoopRestorationParams}
use Rattle.restoration_numbers.specs.Numbers.{lr_context, lr_params}

module _ (xs : List ℤ) where
  pub lr_context_is : {a b c : Bool} {d : ℕ} {e f g : Bool}
      → a ≡ (lr_context xs).all_lossless
      → b ≡ (lr_context xs).allow_intrabc
      → c ≡ (lr_context xs).enable_restoration
      → d ≡ (lr_context xs).planes
      → e ≡ (lr_context xs).use_128x128_superblock
      → f ≡ (lr_context xs).subsampling_x
      → g ≡ (lr_context xs).subsampling_y
      → ◌≡◌ {A = LoopRestorationContext} (record { all_lossless = a; allow_intrabc = b; enable_restoration = c; planes = d; use_128x128_superblock = e; subsampling_x = f; subsampling_y = g }) (lr_context xs)
  lr_context_is a b c d e f g = λ i. record { all_lossless = a i; allow_intrabc = b i; enable_restoration = c i; planes = d i; use_128x128_superblock = e i; subsampling_x = f i; subsampling_y = g i }

  pub lr_params_is : {a : List ℕ} {b c : Bool} {d e : ℕ}
      → a ≡ (lr_params xs).frame_restoration_type
      → b ≡ (lr_params xs).uses_lr
      → c ≡ (lr_params xs).uses_chroma_lr
      → d ≡ (lr_params xs).lr_unit_shift
      → e ≡ (lr_params xs).lr_uv_shift
      → ◌≡◌ {A = LoopRestorationParams} (record { frame_restoration_type = a; uses_lr = b; uses_chroma_lr = c; lr_unit_shift = d; lr_uv_shift = e }) (lr_params xs)
  lr_params_is a b c d e = λ i. record { frame_restoration_type = a i; uses_lr = b i; uses_chroma_lr = c i; lr_unit_shift = d i; lr_uv_shift = e i }
