use borrow.Author.Rules.{rules}
use Rattle.reader.proofs.Fields.{Fielded, fielded_all, fielded_on, fielded_end, byte_inside, place_fits, value_small, value_times, value_more}
use Rattle.reader.proofs.by_bytes.Statement.{statement}
use Rattle.reader.proofs.by_bytes.Tie as tie

abbrev invariant-loop : tie.invariant-loop-left
invariant-loop s at n left₀ at₀ value₀ left at' value = Fielded s at n value left at'

abbrev decreases-loop : tie.decreases-loop-left
decreases-loop s at n left₀ at₀ value₀ left at' value = left

pub by_bytes_spec : {M : Type 1} → statement M
by_bytes_spec =
    tie.close
    (tie.spec
    invariant-loop
    decreases-loop
    (λ c. search fielded_all)
    (λ c. search rules) (λ c. search rules) (λ c κs. search rules) (λ c κs. search rules) (λ c. record { fits = search value_times })
    (λ c. search byte_inside)
    (λ c. search rules) (λ c κs. search rules) (λ c. record { fits = search value_more })
    (λ c. search rules) (λ c. record { fits = search place_fits })
    (λ c. search rules) (λ c. search rules) (λ c. search fielded_on)
    (λ c. record { fits = search value_small })
    (λ c. search fielded_end))
