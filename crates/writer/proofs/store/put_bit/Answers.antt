use Rattle.std.proofs.Common.{rules, ⊎_elim}
use Rattle.writer.proofs.Chunk.{bit-stored, bit_far, bit_past, blend_byte_fits}
use Rattle.writer.proofs.store.put_bit.Goals as goal

pub overflow_cast-out-then-i-out : goal.overflow_cast-out-then-i-out
overflow_cast-out-then-i-out c = record { fits = search (rules, blend_byte_fits) }

pub returns-then-i-out : goal.returns-then-i-out
returns-then-i-out c = search (rules, bit-stored)

pub returns-else-at-lt-LIMIT : goal.returns-else-at-lt-LIMIT
returns-else-at-lt-LIMIT c = ⊎_elim (λ h. bit_past _ _ _ h.1) (bit_far _ _ _) c.else-at-lt-LIMIT.either
