use borrow.Author.Rules.{rules}
use Rattle.bits.proofs.Numbers.{power_some}
use Rattle.reader.proofs.Windows.{window_got, window_value}
use Rattle.reader.proofs.by_window.Statement.{statement}
use Rattle.reader.proofs.by_window.Tie as tie

pub by_window_spec : {M : Type 1} → statement M
by_window_spec =
    tie.close
    (tie.spec
    (λ c. search rules) (λ c. search rules) (λ c. search rules) (λ c. search rules) (λ c. search rules)
    (λ c κs. search rules) (λ c. search rules) (λ c. search rules) (λ c κs. search rules)
    (λ c. search power_some) (λ c. record { fits = search window_value }) (λ c. search window_got))
