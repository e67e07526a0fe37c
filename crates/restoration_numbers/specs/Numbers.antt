-- The record's numbers, in the order of the case lines: the context first.
use Rattle.std.specs.Prelude.{List, [], ◌∷◌, ℤ}
use Rattle.bits.specs.Walk.{Walk}
use Rattle.restoration.specs.Restoration as restoration
use Rattle.restoration.specs.declared.record.LoopRestorationParams.{LoopRestorationParams}
use Rattle.restoration.specs.declared.record.LoopRestorationContext.{LoopRestorationContext}
use Rattle.numbers.specs.Numbers.{set_at, natural_at}

abbrev pub lr_context : List ℤ → LoopRestorationContext
lr_context xs = record {
  all_lossless = set_at xs 0;
  allow_intrabc = set_at xs 1;
  enable_restoration = set_at xs 2;
  planes = natural_at xs 3;
  use_128x128_superblock = set_at xs 4;
  subsampling_x = set_at xs 5;
  subsampling_y = set_at xs 6;
}

abbrev pub lr_params : List ℤ → LoopRestorationParams
lr_params xs = record {
  frame_restoration_type = natural_at xs 7 ∷ natural_at xs 8 ∷ natural_at xs 9 ∷ [];
  uses_lr = set_at xs 10;
  uses_chroma_lr = set_at xs 11;
  lr_unit_shift = natural_at xs 12;
  lr_uv_shift = natural_at xs 13;
}

-- what the numbers have written
abbrev pub lr_walk : List ℤ → Walk
lr_walk xs = (restoration.lr_params (lr_context xs)).enc (lr_params xs)
