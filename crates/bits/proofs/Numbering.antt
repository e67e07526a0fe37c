-- A refusal's numbers, once its case is known.
use mathlib.Core.Path.{◌≡◌, sym, ap, ◌∙◌}
use Rattle.bits.specs.Answers.{numbered}
use Rattle.bits.specs.declared.answer.Numbered.{Numbered}
use Rattle.bits.specs.declared.answer.Refusal.{Refusal}

pub numbered_as : {r s : Refusal} {n : Numbered} → r ≡ s → n ≡ numbered s → n ≡ numbered r
numbered_as e h = h ∙ sym (ap numbered e)
