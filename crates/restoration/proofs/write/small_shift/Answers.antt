use Rattle.restoration.proofs.Steps.{small_zero, small_halt, small_coded}
use Rattle.restoration.proofs.write.small_shift.Goals as goal

pub returns-then-shift-eq0 : goal.returns-then-shift-eq0
returns-then-shift-eq0 c = search (small_zero, small_halt, small_coded) depth 14

pub returns-in_err-flag : goal.returns-in_err-flag
returns-in_err-flag c = search (small_zero, small_halt, small_coded) depth 14

pub returns : goal.returns
returns c = search (small_zero, small_halt, small_coded) depth 14
