use borrow.Author.Rules.{rules}
use Rattle.bits.proofs.Numbers.{power_some, chunk_is}
use Rattle.reader.proofs.chunk.Statement.{statement}
use Rattle.reader.proofs.chunk.Tie as tie

pub chunk_spec : {M : Type 1} → statement M
chunk_spec =
    tie.close
    (tie.spec (λ c κs. search rules) (λ c. search power_some) (λ c κs. search rules) (λ c. search power_some) (λ c. search chunk_is))
