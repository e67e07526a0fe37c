use Rattle.cdef.proofs.Steps.{secondary_three, secondary_four, secondary-other}
use Rattle.cdef.proofs.packed.secondary.Goals as goal

pub returns-then-v-eq3 : goal.returns-then-v-eq3
returns-then-v-eq3 c = search (secondary_three, secondary_four, secondary-other) depth 14

pub returns-then-v-eq4 : goal.returns-then-v-eq4
returns-then-v-eq4 c = search (secondary_four, secondary-other) depth 14

pub returns : goal.returns
returns c = search (secondary_four, secondary-other) depth 14
