-- The text stays in its slice.
use Rattle.std.proofs.Common.{◌≡◌, length}
use Rattle.show.proofs.dump_row.Given as goal

abbrev pub invariant-loop-b : goal.invariant-loop-b
invariant-loop-b g l = length l.out.out.now ≡ length l.initial.out.out.now
