use Rattle.std.proofs.Common.{◌≡◌, ◌∙◌, refl, ◌*◌, length, length-set, arith}
use Rattle.lines.specs.Hex.{upper}
use Rattle.lines.proofs.Uppers.{upper_length, hex_more}
use Rattle.lines.proofs.answer.put_hex.Goals as goal

pub loop-i-preserved : goal.loop-i-preserved
loop-i-preserved c = (
  simp length-set c.loop-i.invariant.0,
  rw (c.loop-i.invariant.1, c.glyph.ensures, c.glyph-in-loop-i.ensures) (hex_more c.args.out.now c.args.at c.args.s.now c.loop-i.i (omega arith) (omega arith)),
)

pub returns-then-end-out-clause-put : goal.returns-then-end-out-clause-put
returns-then-end-out-clause-put c = λ f. absurd (omega (arith, f, upper_length c.args.s.now))

pub returns-clause-put : goal.returns-clause-put
returns-clause-put c = λ f.
    let n = upper_length c.args.s.now in
    let k : 2 * c.loop-i.i ≡ length (upper c.args.s.now) = omega (arith, f, n) in
    (omega (arith, f, n), c.loop-i.invariant.1 ∙ rw k refl)
