use Rattle.std.proofs.Common.{ap, ◌≤◌, length, List, ℕ}
use Rattle.words.proofs.Longest.{longest}
use Rattle.words.specs.Sentence.{explained, cut}
use Rattle.words.proofs.Puts.{written, lent}
use Rattle.words.proofs.explain.Goals as goal

pub returns-clause-value : goal.returns-clause-value
returns-clause-value c =
    let l = longest _ _ _ _ (c.fits-answer 0) (c.fits-answer 1) (c.fits-answer 2) (c.fits-answer 3) in
    rw c.written-length.ensures (ap length (written c.sentence.ensures c.new-out.ensures.start (rw c.new-out.ensures.slice l)))

pub returns-clause-text_after : goal.returns-clause-text_after
returns-clause-text_after c =
    let l = longest _ _ _ _ (c.fits-answer 0) (c.fits-answer 1) (c.fits-answer 2) (c.fits-answer 3) in
    let t : length (explained c.args.answer.now) ≤ length c.new-out.result.out.now = rw c.new-out.ensures.slice l in
    rw (c.cut.ensures, c.written-length.ensures) (ap (λ (s : List ℕ). cut s c.args.text.now) (search (lent {n = 104} c.sentence.ensures c.new-out.ensures.start t c.new-out.ensures.same_slice)))
