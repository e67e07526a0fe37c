use Rattle.restoration.proofs.Steps.{kinds-packed}
use Rattle.restoration.proofs.packed.kinds.Goals as goal

pub returns-then-v-lt4 : goal.returns-then-v-lt4
returns-then-v-lt4 c = search kinds-packed
