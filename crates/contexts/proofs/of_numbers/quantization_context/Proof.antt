use borrow.Author.Rules.{rules}
use Rattle.contexts.proofs.Records.{quantization_is}
use Rattle.contexts.proofs.of_numbers.quantization_context.Statement.{statement}
use Rattle.contexts.proofs.of_numbers.quantization_context.Tie as tie

pub quantization_context_spec : {M : Type 1} → statement M
quantization_context_spec =
    tie.close
    (tie.spec
    (λ c. search rules) (λ c κs. search rules) (λ c. search rules) (λ c κs. search rules) (λ c. search (rules, quantization_is)))
