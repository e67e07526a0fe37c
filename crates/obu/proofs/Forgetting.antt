-- A public writer without widths answers the same but for the width, and leaves the same bytes.
use mathlib.Core.Path.{◌≡◌, refl, ap, ◌∙◌}
use mathlib.Core.List.{List}
use mathlib.Core.Bool.{cond}
use Prim.Native.Nat.{ℕ}
use lib.Dec.{ltb}
use lib.ListN.{length}
use Rattle.bits.specs.Bits.{Bits}
use Rattle.bits.specs.Walk.{Walk, End, done, refused, run}
use Rattle.bits.specs.Written.{whole_bytes, Answer}
use Rattle.std.specs.Prelude.{Ok, Err}
use Rattle.bits.specs.declared.answer.Refusal.TheVariants.{Short, Long}
use Rattle.bits.proofs.Laws.{cond-ap}
use Rattle.bits.proofs.Forgetting.{forget_end, forget_answer, forget_written, without_widths, forgetting_bits, forgetting_end}
use Rattle.obu.specs.Writer.{after_walk, answer_to, stored, written}

ended : (e : End) (n len : ℕ) → after_walk (forget_end e) n len ≡ forget_answer (after_walk e n len)
ended done n len = cond-ap forget_answer (ltb len (whole_bytes n)) (Err (Short (whole_bytes n))) (Ok (whole_bytes n))
ended (refused r) n len = refl

kept : (a : Answer) (bs : Bits) (xs : List ℕ) → stored (forget_answer a) bs xs ≡ stored a bs xs
kept (Ok n) bs xs = refl
kept (Err r) bs xs = refl

module _ (w : Walk) (xs : List ℕ) where
  answers : answer_to (forget_end (run w).end) (length (run w).bits) (length xs) ≡ forget_answer (answer_to (run w).end (length (run w).bits) (length xs))
  answers = ap (cond (ltb 65536 (length xs)) (Err Long)) (ended (run w).end _ (length xs)) ∙ cond-ap forget_answer (ltb 65536 (length xs)) (Err Long) (after_walk (run w).end _ (length xs))

  pub forgetting : written (without_widths w) xs ≡ forget_written (written w xs)
  unfolding written
  forgetting =
      let a = answer_to (run w).end (length (run w).bits) (length xs) in
      rw (forgetting_bits w, forgetting_end w)
      (λ i. record { answer = answers i; bytes = (ap (λ (b : Answer). stored b (run w).bits xs) answers ∙ kept a (run w).bits xs) i })
