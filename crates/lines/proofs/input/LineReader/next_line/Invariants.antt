-- What was put stays in the slice.
use Rattle.std.proofs.Common.{◌≤◌, length}
use Rattle.lines.proofs.input.LineReader.next_line.Given as goal

abbrev pub invariant-loop : goal.invariant-loop
invariant-loop g l = l.count ≤ length l.line
