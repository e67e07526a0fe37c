use Rattle.restoration.proofs.Steps.{large_zero, large_other}
use Rattle.restoration.proofs.write.large_shift.Goals as goal

pub returns-then-shift-eq0 : goal.returns-then-shift-eq0
returns-then-shift-eq0 c = search (large_zero, large_other) depth 14

pub returns : goal.returns
returns c = search large_other
