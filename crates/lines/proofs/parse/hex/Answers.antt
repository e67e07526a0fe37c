use Rattle.std.proofs.Common.{◌≡◌, sym, ◌∙◌, [], Some, None, take, drop, ◌*◌, append-nil, drop_of_length-le, arith, refl}
use Rattle.std.proofs.lemmas.Grind.{common_steps}
use Rattle.lines.specs.Hex.{bytes}
use Rattle.lines.proofs.Hexes.{bytes-length, next_byte, stored}
use Rattle.lines.proofs.parse.hex.Goals as goal

pub returns-then-s-ne0 : goal.returns-then-s-ne0
returns-then-s-ne0 c = λ read h. let l = bytes-length c.args.s.now read h in grind arith

pub returns-in_err-out : goal.returns-in_err-out
returns-in_err-out c =
    let n = next_byte c.args.s.now c.loop-i.i (omega arith) in
    let e : bytes c.args.s.now ≡ None = rw (c.loop-i.invariant.read, n, ← c.byte.ensures, c.in_err-out.was) refl in
    rw c.from_residual.ensures (λ read h. absurd (let z : None ≡ Some read = sym e ∙ h in cc))

pub loop-i-preserved : goal.loop-i-preserved
loop-i-preserved c =
    let n = next_byte c.args.s.now c.loop-i.i (omega arith) in
    record {
      same_length = grind (arith, common_steps);
      read = c.loop-i.invariant.read ∙ rw (n, ← c.byte.ensures, c.in_ok-out.was) (stored c.loop-i.out c.loop-i.i c.in_ok-out.field-0 _ (omega arith));
      kept = grind (arith, common_steps);
    }

pub returns : goal.returns
unfolding bytes
returns c =
    let rest : drop (2 * c.loop-i.i) c.args.s.now ≡ [] = drop_of_length-le c.args.s.now (omega arith) in (
      take c.loop-i.i c.loop-i.out,
      c.loop-i.invariant.read ∙ rw (rest, append-nil),
      grind (arith, common_steps),
      grind (arith, common_steps),
    )
