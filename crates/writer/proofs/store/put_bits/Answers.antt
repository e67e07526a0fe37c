use Rattle.std.proofs.Common.{rules, sym, ◌∙◌, arith, inl, inr, ⊎_elim}
use Rattle.writer.proofs.Chunk.{stores_past, bit_turn, none_left, shifted}
use Rattle.writer.proofs.store.put_bits.Goals as goal

pub returns-then-out-at : goal.returns-then-out-at
returns-then-out-at c = search (rules, stores_past)

pub loop-place-preserved : goal.loop-place-preserved
loop-place-preserved c =
    let s = c.in-Some.ensures.steps in
    let i = c.loop-place.invariant in
    (bit_turn _ _ _ s.0.1.1 s.1.1.1 (c.unwrap_or.ensures ∙ shifted _ _ _ c.ranges.value.fits c.checked_shr.ensures) c.put_bit.ensures s.0.1.2 s.1.1.2 ∙ i.0, s.0.0 ∙ i.1, s.1.0 ∙ i.2)

pub returns : goal.returns
returns c =
    let i = c.loop-place.invariant in
    sym (none_left _ _ _ _ (⊎_elim (λ x. inl (omega (arith, x.1.1, i.1))) (λ x. inr (omega (arith, x.1.1, i.2))) c.in-None.ensures.steps)) ∙ i.0
