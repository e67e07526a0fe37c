use borrow.Author.Rules.{rules}
use Rattle.contexts.proofs.Records.{cdef_is}
use Rattle.contexts.proofs.of_numbers.cdef_context.Statement.{statement}
use Rattle.contexts.proofs.of_numbers.cdef_context.Tie as tie

pub cdef_context_spec : {M : Type 1} → statement M
cdef_context_spec =
    tie.close
    (tie.spec
    (λ c κs. search rules) (λ c κs. search rules) (λ c. search rules) (λ c κs. search rules) (λ c. search rules) (λ c κs. search rules) (λ c. search (rules, cdef_is)))
