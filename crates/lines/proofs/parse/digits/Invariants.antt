use Rattle.std.proofs.Common.{◌≡◌, ◌^◌, ◌<◌, drop}
use Rattle.lines.specs.Text.{some_digits, digits}
use Rattle.lines.proofs.parse.digits.Given as goal

abbrev pub invariant-loop-b : goal.invariant-loop-b
invariant-loop-b l = record {
  so_far : some_digits l.s ≡ digits l.value (drop l.b-index l.s);
  fits : l.value < 10 ^ 18;
}
