-- A byte string written: the walk of its bytes, and what a writer of it answers.
use mathlib.Core.Path.{◌≡◌, refl, sym, ◌∙◌}
use mathlib.Core.Bool.{Bool, true, false, cond}
use mathlib.Core.List.{List, [], ◌∷◌, ◌++◌}
use Prim.Native.Nat.{ℕ, suc, ◌*◌, ◌≤◌, ◌<◌}
use native.Mathlib.Omega.{arith}
use borrow.Author.Tests.{lt-ltb, ltb-false}
use lib.Dec.{ltb}
use lib.ListN.{length, get_or, drop}
use Rattle.bits.specs.Bits.{bits_of}
use Rattle.bits.specs.Walk.{Walk, done, wrote, run, join}
use Rattle.bits.specs.Codec.{nil}
use Rattle.bits.specs.declared.answer.Refusal.TheVariants.{Short, Long}
use Rattle.bits.proofs.Places.{length-bits_of}
use Rattle.bits.specs.Written.{Answer, whole_bytes}
use Rattle.std.specs.Prelude.{Ok, Err}
use Rattle.std.specs.Result.{IsErrAnd, result_from_control_flow}
use Rattle.std.proofs.Common.{Continue, Break}
use Rattle.bits.proofs.Passing.{taken, broke, passed}
use Rattle.bits.specs.Answers.{capped}
use Rattle.obu.specs.Writer.{answer_to, written, Writes, writes, verdict}
use Rattle.obu.specs.Delimiter.{octets}
use Rattle.obu.specs.Demand3.{AreBytes}
use Rattle.obu.proofs.Bytes.{put-bytes}

-- the elements of a slice of bytes are bytes
pub are_bytes : (xs : List ℕ) → ((i : ℕ) → get_or xs i 0 < 256) → AreBytes xs
are_bytes [] h = nil
are_bytes (x ∷ xs) h = (h 0, are_bytes xs (λ i. h (suc i)))

pub octets-run : (es : List ℕ) → AreBytes es → run (octets es) ≡ wrote (bits_of es)
unfolding octets bits_of run join
octets-run [] E = refl
octets-run (e ∷ es) E = rw (lt-ltb e 256 E.0, octets-run es E.1)

-- what is written of one walk is written of another that comes to the same
pub writes_as : {v w : Walk} {xs ys : List ℕ} {a : Answer} → run v ≡ run w → Writes v xs a ys → Writes w xs a ys
unfolding written
writes_as e (writes p q) = writes (rw (← e) p) (rw (← e) q)

-- The answer that a writer of the string es gives to the slice xs
module _ (es xs : List ℕ) (few : length es ≤ 65536) {a : Answer} (q : a ≡ verdict (Ok tt) (length es * 8) (length xs)) where
  told : a ≡ answer_to done (length (bits_of es)) (length xs)
  unfolding verdict
  told =
      let n : capped (whole_bytes (length es * 8)) ≡ whole_bytes (length es * 8) = omega arith in
      q ∙ rw (n, length-bits_of es)

  room : {n : ℕ} → a ≡ Ok n → (length es ≤ length xs) × (length xs ≤ 65536)
  room {n} h = go (ltb 65536 (length xs)) refl (ltb (length xs) (whole_bytes (length es * 8))) refl (sym h ∙ told ∙ rw (length-bits_of es))
    where
      go : (t : Bool) → ltb 65536 (length xs) ≡ t → (u : Bool) → ltb (length xs) (whole_bytes (length es * 8)) ≡ u
          → Ok n ≡ cond t (Err Long) (cond u (Err (Short (whole_bytes (length es * 8)))) (Ok (whole_bytes (length es * 8)))) → (length es ≤ length xs) × (length xs ≤ 65536)
      go true e u k h = let z : ◌≡◌ {A = ℕ} 0 1 = cc in absurd (omega arith)
      go false e true k h = let z : ◌≡◌ {A = ℕ} 0 1 = cc in absurd (omega arith)
      go false e false k h = (omega (arith, ltb-false (length xs) (whole_bytes (length es * 8)) k), ltb-false 65536 (length xs) e)

  module _ (k : _) (e : a ≡ result_from_control_flow k) where
    pub string_room : {n : ℕ} → k ≡ Continue n → length es ≤ length xs
    string_room h = (room (taken k e h)).0

    pub string_ended : AreBytes es → {r : Answer} {d : _} → k ≡ Break d → IsErrAnd r (λ y. y ≡ d.0) → Writes (octets es) xs r xs
    unfolding written
    string_ended E {r} {d} h z =
        let q = octets-run es E in
        let g = broke k e h in
        writes (passed d.0 r z ∙ sym g ∙ told ∙ rw q) (rw (q, ← told, g))

    pub string_filled : AreBytes es → AreBytes xs → {n : ℕ} {ys : List ℕ} → k ≡ Continue n → ys ≡ es ++ drop (length es) xs → Writes (octets es) xs (Ok n) ys
    unfolding written
    string_filled E X h l =
        let q = octets-run es E in
        let g = taken k e h in
        let r = room g in
        writes (sym g ∙ told ∙ rw q) (rw (q, ← told, g) (l ∙ sym (put-bytes xs es E X r.0 r.1)))
