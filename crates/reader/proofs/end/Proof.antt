use borrow.Author.Rules.{rules}
use Rattle.bits.proofs.Places.{end_near, end_far}
use Rattle.reader.proofs.end.Statement.{statement}
use Rattle.reader.proofs.end.Tie as tie

pub end_spec : {M : Type 1} → statement M
end_spec = tie.close (tie.spec (λ c. search rules) (λ c. search end_near) (λ c. search end_far))
