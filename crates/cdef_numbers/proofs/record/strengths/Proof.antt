-- The loop's invariant: the places below i are filled.
use Prim.Native.Nat.{◌+◌, ◌-◌}
use borrow.Author.Rules.{rules}
use Rattle.numbers.specs.Numbers.{natural_at}
use Rattle.numbers.proofs.Filling.{Filled, filled_none, filled_on, filled-end}
use Rattle.cdef_numbers.proofs.record.strengths.Statement.{statement}
use Rattle.cdef_numbers.proofs.record.strengths.Tie as tie

abbrev invariant-loop : tie.invariant-loop-i
invariant-loop n at a₀ i₀ a i = Filled (λ j. natural_at n (at + j)) 8 a i

abbrev decreases-loop : tie.decreases-loop-i
decreases-loop n at a₀ i₀ a i = 8 - i

pub strengths_spec : {M : Type 1} → statement M
strengths_spec =
    tie.close
    (tie.spec
    invariant-loop
    decreases-loop
    (λ c. filled_none 0) (λ c. search rules) (λ c κs. search rules) (λ c. search rules) (λ c. search rules) (λ c. search rules) (λ c. search rules) (λ c. search filled_on) (λ c. search filled-end))
