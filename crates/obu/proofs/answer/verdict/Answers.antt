use mathlib.Core.Path.{◌≡◌, ◌∙◌}
use Prim.Native.Nat.{ℕ, ◌+◌, ◌/◌, ◌%◌, ◌≤◌, ◌<◌}
use native.Mathlib.Omega.{arith}
use borrow.Author.Tests.{lt-ltb, le-ltb}
use Rattle.std.specs.Prelude.{Result, Ok, Err}
use Rattle.std.specs.Result.{IsErrAnd, result_from_control_flow}
use Rattle.std.proofs.Common.{Continue, Break}
use Rattle.bits.specs.declared.answer.Refusal.{Refusal}
use Rattle.bits.specs.declared.answer.Refusal.TheVariants.{Short, Long}
use Rattle.bits.specs.Answers.{capped}
use Rattle.bits.specs.Written.{Answer, whole_bytes}
use Rattle.bits.proofs.Passing.{taken, broke, passed}
use Rattle.obu.specs.Writer.{verdict}
use Rattle.obu.proofs.answer.verdict.Goals as goal

-- the code's sum, which no place makes wrap
whole : (n : ℕ) → whole_bytes n ≡ n / 8 + (n % 8 + 7) / 8
whole n = omega arith

module _ (s : Result Unit Refusal) (bits len : ℕ) where
  large : 65536 < len → Err Long ≡ verdict s bits len
  unfolding verdict
  large l = rw (lt-ltb 65536 len l)

  module _ (m : len ≤ 65536) (k : _) (e : s ≡ result_from_control_flow k) where
    none : {r : Answer} {d : _} → k ≡ Break d → IsErrAnd r (λ y. y ≡ d.0) → r ≡ verdict s bits len
    unfolding verdict
    none {r} {d} h z = passed d.0 r z ∙ rw (broke k e h, le-ltb 65536 len m)

    less : {x : Unit {0}} {n : ℕ} → k ≡ Continue x → len < bits / 8 + (bits % 8 + 7) / 8 → n ≡ capped (bits / 8 + (bits % 8 + 7) / 8) → Err (Short n) ≡ verdict s bits len
    unfolding verdict
    less h l q = rw (taken k e h, le-ltb 65536 len m, whole bits, lt-ltb len (bits / 8 + (bits % 8 + 7) / 8) l, q)

    enough : {x : Unit {0}} {n : ℕ} → k ≡ Continue x → bits / 8 + (bits % 8 + 7) / 8 ≤ len → n ≡ capped (bits / 8 + (bits % 8 + 7) / 8) → Ok n ≡ verdict s bits len
    unfolding verdict
    enough h l q = rw (taken k e h, le-ltb 65536 len m, whole bits, le-ltb len (bits / 8 + (bits % 8 + 7) / 8) l, q)

pub returns-then-len-gt65536 : goal.returns-then-len-gt65536
returns-then-len-gt65536 c = search large

pub returns-in_err-walk : goal.returns-in_err-walk
returns-in_err-walk c = search none

pub returns-then-len-needed : goal.returns-then-len-needed
returns-then-len-needed c = search less

pub returns : goal.returns
returns c = search enough
