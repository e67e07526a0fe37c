use Rattle.std.proofs.Common.{◌≡◌, sym, ◌∙◌, ap, List, ℕ, ◌-◌, length, take, drop}
use lib.ListN.{take-append-drop, length-drop}
use lib.Seq.{take-length}
use Rattle.lines.proofs.parse.WordsIterator.next.Goals as goal

-- from a place on, to the end
whole : (xs : List ℕ) (k : ℕ) → take (length xs - k) (drop k xs) ≡ drop k xs
whole xs k = ap (λ (n : ℕ). take n (drop k xs)) (sym (length-drop k xs)) ∙ take-length (drop k xs)

pub returns-clause-steps : goal.returns-clause-steps
returns-clause-steps c =
    let rest : List ℕ = c.args.self.now.rest.now in
    let k : ℕ = c.in_ok-start.start in
    (take k rest, sym (rw (c.split_at.ensures.front, c.split_at.ensures.back, whole rest k, take-append-drop c.if-line-eq59.len (drop k rest)) (take-append-drop k rest)))
