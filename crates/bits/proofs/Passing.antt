-- A `?` on an answer u: k is how it was taken, and r what a refusal is passed on as.
use mathlib.Core.Path.{◌≡◌, ap, ◌∙◌}
use Rattle.std.specs.Prelude.{Result, Ok, Err}
use Rattle.std.specs.Result.{IsErrAnd, result_from_control_flow}
use Rattle.std.proofs.Common.{Continue, Break}
use Rattle.bits.specs.declared.answer.Refusal.{Refusal}

module _ {A : Type 0} {u : Result A Refusal} (k : _) (e : u ≡ result_from_control_flow k) where
  pub taken : {x : A} → k ≡ Continue x → u ≡ Ok x
  taken h = e ∙ ap result_from_control_flow h

  pub broke : {d : _} → k ≡ Break d → u ≡ Err d.0
  broke h = e ∙ ap result_from_control_flow h

pub passed : {A : Type 0} (x : Refusal) (r : Result A Refusal) → IsErrAnd r (λ y. y ≡ x) → r ≡ Err x
passed x (Ok u) h = absurd h
passed x (Err y) h = ap Err h
