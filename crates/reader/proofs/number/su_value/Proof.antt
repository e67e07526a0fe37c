use Rattle.reader.proofs.Values.{value_low_fits, value_low, value_high_fits, value_high_flips, value_high}
use borrow.Author.Rules.{rules}
use Rattle.reader.proofs.number.su_value.Statement.{statement}
use Rattle.reader.proofs.number.su_value.Tie as tie

pub su_value_spec : {M : Type 1} → statement M
su_value_spec =
    tie.close
    (tie.spec
    (λ c κs. search rules) (λ c. search rules) (λ c. record { sfits = search value_low_fits })
    (λ c. search value_low)
    (λ c. search rules) (λ c. search rules) (λ c. record { sfits = search value_high_fits })
    (λ c. search value_high_flips)
    (λ c. search value_high))
