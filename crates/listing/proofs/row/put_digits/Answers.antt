use Rattle.std.proofs.Common.{ap, ◌≤◌, length}
use Rattle.lines.specs.Signed.{signed}
use Rattle.lines.proofs.Signs.{signed_fits}
use Rattle.words.proofs.Puts.{written, front}
use Rattle.listing.proofs.row.put_digits.Goals as goal

pub returns-clause-length : goal.returns-clause-length
returns-clause-length c =
    let l : length (signed c.args.n) ≤ length c.new-out.result.out.now = rw (c.new-out.ensures.slice, c.told-digits) (signed_fits c.args.n) in
    rw c.written.ensures (ap length (written c.put.ensures c.new-out.ensures.start l))

pub returns-clause-text : goal.returns-clause-text
returns-clause-text c =
    let l : length (signed c.args.n) ≤ length c.new-out.result.out.now = rw (c.new-out.ensures.slice, c.told-digits) (signed_fits c.args.n) in
    rw c.written.ensures (front c.put.ensures c.new-out.ensures.start l)
