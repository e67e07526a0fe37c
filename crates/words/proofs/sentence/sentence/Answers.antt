use Rattle.std.proofs.Common.{get_or, arith}
use Rattle.words.specs.Sentence.{plain, sentence}
use Rattle.words.specs.Text.{find}
use Rattle.words.proofs.Puts.{puts_then}
use Rattle.words.proofs.Sentences.{no_answer}
use Rattle.words.proofs.sentence.sentence.Goals as goal

pub returns-in-2 : goal.returns-in-2
unfolding sentence find plain
returns-in-2 c = rw c.in-2.is (puts_then c.place-in-2.ensures (puts_then c.text-in-2.ensures c.bits_needed.ensures))

pub returns-in-3 : goal.returns-in-3
unfolding sentence find plain
returns-in-3 c = rw c.in-3.is (puts_then c.text-in-3.ensures c.needed.ensures)

pub returns-in-5 : goal.returns-in-5
unfolding sentence find plain
returns-in-5 c = rw c.in-5.is c.text-in-5.ensures

pub returns-in-6 : goal.returns-in-6
unfolding sentence find plain
returns-in-6 c = rw c.in-6.is c.text-in-6.ensures

pub returns-in-8 : goal.returns-in-8
unfolding sentence find plain
returns-in-8 c = rw c.in-8.is c.text-in-8.ensures

pub returns-in_default : goal.returns-in_default
returns-in_default c =
    let e = no_answer (get_or c.args.answer.now 0 0) (get_or c.args.answer.now 1 0) (get_or c.args.answer.now 2 0) (get_or c.args.answer.now 3 0) (omega arith) in
    rw e (puts_then c.text-in_default.ensures c.decimal.ensures)
