use Rattle.std.proofs.Common.{◌≡◌, ◌++◌, ◌*◌, drop, take, length}
use Rattle.std.specs.Option.{option_map}
use Rattle.lines.specs.Hex.{bytes}
use Rattle.lines.proofs.parse.hex.Given as goal

abbrev pub invariant-loop-i : goal.invariant-loop-i
invariant-loop-i l = record {
  same_length : length l.out ≡ length l.initial.out;
  read : bytes l.s ≡ option_map (λ rest. take l.i l.out ++ rest) (bytes (drop (2 * l.i) l.s));
  kept : drop l.i l.out ≡ drop l.i l.initial.out;
}
