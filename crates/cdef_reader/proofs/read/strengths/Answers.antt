use mathlib.Core.Path.{refl}
use Rattle.cdef.specs.Cdef.{strengths}
use Rattle.cdef_reader.specs.Layout.{strengths_place, strength_place}
use Rattle.fill.proofs.Filling.{begin, halted, onward, yes_eq, nothing_pair, no_eq, final}
use Rattle.cdef_reader.proofs.Strengths.{strength_of}
use Rattle.cdef_reader.proofs.read.strengths.Goals as goal

pub returns-in_err-strength : goal.returns-in_err-strength
unfolding strengths strengths_place strength_place
returns-in_err-strength c = begin _ (halted _ _ (strength_of _ _ _ c.in_err-strength.ensures) c.from_residual.ensures.1)

pub returns-then-planes-eq1 : goal.returns-then-planes-eq1
unfolding strengths strengths_place strength_place
returns-then-planes-eq1 c = begin _ (onward _ _ _ _ (strength_of _ _ _ c.in_ok-strength.ensures) (λ _. yes_eq _ _ _ _ c.if-planes-eq1.true (nothing_pair _ _ _ _ _ _ _ refl)))

pub returns : goal.returns
unfolding strengths strengths_place strength_place
returns c = begin _ (onward _ _ _ _ (strength_of _ _ _ c.in_ok-strength.ensures) (λ _. no_eq _ _ _ _ c.if-planes-eq1.false (final _ (strength_of _ _ _ c.strength-2.ensures) refl)))
