use borrow.Author.Rules.{rules}
use Rattle.friscurella.proofs.Crossing.{place_fits, size_fits, payload_crosses}
use Rattle.friscurella.proofs.calls.friscurella_payload.Statement.{statement}
use Rattle.friscurella.proofs.calls.friscurella_payload.Tie as tie

pub friscurella_payload_spec : {M : Type 1} → statement M
friscurella_payload_spec =
    tie.close
    (tie.spec
    (λ c κs. search rules) (λ c. search place_fits) (λ c. search size_fits) (λ c. search payload_crosses))
