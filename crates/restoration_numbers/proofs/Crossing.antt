-- The part is written as its numbers say.
use mathlib.Core.Path.{◌≡◌}
use mathlib.Core.List.{List}
use Prim.Native.Nat.{ℕ}
use lib.IntN.{ℤ}
use Rattle.bits.specs.Walk.{run}
use Rattle.bits.specs.Written.{Answer}
use Rattle.parts.specs.Written.{Writes}
use Rattle.restoration.specs.Restoration as restoration
use Rattle.restoration.specs.declared.record.LoopRestorationParams.{LoopRestorationParams}
use Rattle.restoration.specs.declared.record.LoopRestorationContext.{LoopRestorationContext}
use Rattle.numbers.proofs.Writing.{written_as}
use Rattle.restoration_numbers.specs.Numbers.{lr_context, lr_params, lr_walk}

pub lr_crosses : {place : ℕ} {out end : List ℕ} {r : Answer} (xs : List ℤ) {p : LoopRestorationParams} {k : LoopRestorationContext} → p ≡ lr_params xs → k ≡ lr_context xs
    → Writes ((restoration.lr_params k).enc p) place out r end → Writes (lr_walk xs) place out r end
lr_crosses xs e f w = written_as (λ i. run ((restoration.lr_params (f i)).enc (e i))) w
