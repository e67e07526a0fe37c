use Rattle.std.proofs.Common.{◌≡◌, true}
use Rattle.words.specs.Names.{has_index}
use Rattle.words.specs.Sentence.{place}
use Rattle.words.proofs.Puts.{puts_then}
use Rattle.words.proofs.sentence.place.Goals as goal

pub returns-then-has_index : goal.returns-then-has_index
unfolding place
returns-then-has_index c =
    let e : has_index c.args.number c.args.e ≡ true = cc in
    rw e (puts_then c.element.ensures (puts_then (puts_then c.byte.ensures c.decimal.ensures) c.byte-then-has_index.ensures))
