-- The writer of a part without widths answers the same but for the width, and leaves the same bytes.
use mathlib.Core.Path.{◌≡◌, refl, ap, ◌∙◌}
use mathlib.Core.List.{List}
use mathlib.Core.Bool.{cond}
use Prim.Native.Nat.{ℕ, ◌+◌, ◌*◌}
use lib.Dec.{ltb}
use lib.ListN.{length}
use Rattle.bits.specs.Bits.{Bits, put}
use Rattle.bits.specs.Walk.{Walk, End, done, refused, run}
use Rattle.bits.specs.Written.{keep, whole_bytes}
use Rattle.std.specs.Prelude.{Ok}
use Rattle.bits.specs.declared.answer.Refusal.TheVariants.{Short, Long}
use Rattle.bits.proofs.Laws.{cond-ap}
use Rattle.bits.proofs.Forgetting.{forget_end, forget_written, without_widths, forgetting_bits, forgetting_end}
use Rattle.parts.specs.Written.{after_walk, written}

ended : (e : End) (bs : Bits) (place : ℕ) (xs : List ℕ) → after_walk (forget_end e) bs place xs ≡ forget_written (after_walk e bs place xs)
ended done bs place xs =
    cond-ap forget_written (ltb (length xs * 8) (place + length bs)) (keep (Short (whole_bytes (place + length bs))) xs) (record { answer = Ok (place + length bs); bytes = put xs place bs })
ended (refused r) bs place xs = refl

pub forgetting : (w : Walk) (place : ℕ) (xs : List ℕ) → written (without_widths w) place xs ≡ forget_written (written w place xs)
unfolding written
forgetting w place xs =
    rw (forgetting_bits w, forgetting_end w)
    (ap (cond (ltb 65536 (length xs)) (keep Long xs)) (ended (run w).end (run w).bits place xs) ∙ cond-ap forget_written (ltb 65536 (length xs)) (keep Long xs) (after_walk (run w).end (run w).bits place xs))
