use Prim.Native.Nat.{◌-◌}
use borrow.Author.Rules.{rules}
use Rattle.bits.proofs.Words.{Window, window_all, window_in, window_next, window_on, window_end}
use Rattle.reader.proofs.Windows.{window_low}
use Rattle.reader.proofs.window.Statement.{statement}
use Rattle.reader.proofs.window.Tie as tie

abbrev invariant-loop : tie.invariant-loop-done
invariant-loop s i m v₀ j₀ k₀ v j k = Window m s i v k j

abbrev decreases-loop : tie.decreases-loop-done
decreases-loop s i m v₀ j₀ k₀ v j k = m - k

pub window_spec : {M : Type 1} → statement M
window_spec =
    tie.close
    (tie.spec
    invariant-loop
    decreases-loop
    (λ c. search window_all)
    (λ c. search window_in) (λ c κs. search window_low)
    (λ c. record { fits = search window_next })
    (λ c. search rules) (λ c. search rules) (λ c. search window_on)
    (λ c. search window_end))
