-- What a public writer does, case by case; and the laws by which a writer of two passes meets its contract: the first pass goes over an empty part of
-- the slice and only counts, the second over the slice.
use mathlib.Core.Path.{◌≡◌, refl, sym, ap, ◌∙◌}
use mathlib.Core.List.{List}
use mathlib.Core.Bool.{cond}
use Prim.Native.Nat.{ℕ, ◌≤◌, ◌<◌}
use native.Mathlib.Omega.{arith}
use borrow.Author.Tests.{lt-ltb, le-ltb}
use lib.Dec.{ltb, lit≤}
use lib.ListN.{length, drop}
use Rattle.bits.specs.Bits.{Bits, put}
use Rattle.bits.specs.Walk.{Walk, End, done, refused, Out, wrote, run}
use Rattle.bits.specs.declared.answer.Refusal.{Refusal}
use Rattle.bits.specs.declared.answer.Refusal.TheVariants.{Short, Long}
use Rattle.bits.proofs.Passing.{taken, broke, passed}
use Rattle.bits.proofs.Laws.{cond-ap}
use Rattle.bits.proofs.Counting.{Few}
use Rattle.writer.specs.Walked.{forward, answer, Walked}
use Rattle.writer.specs.declared.BitWriter.{BitWriter}
use Rattle.writer.proofs.Walking.{ok-err, answered, place, bytes, went}
use Rattle.bits.proofs.Storing.{put_beyond}
use Rattle.bits.specs.Written.{Answer, whole_bytes, Written}
use Rattle.std.specs.Prelude.{Result, Ok, Err}
use Rattle.std.specs.Result.{IsErrAnd, result_from_control_flow}
use Rattle.std.proofs.Common.{Continue, Break}
use Rattle.bits.specs.Answers.{capped}
use Rattle.obu.specs.Writer.{after_walk, answer_to, stored, written, Writes, writes, after_answer, verdict}

-- One answer, and one content of the slice
pub only : {w : Walk} {xs ys zs : List ℕ} {a b : Answer} → Writes w xs a ys → Writes w xs b zs → (a ≡ b) × (ys ≡ zs)
only (writes p q) (writes r s) = (p ∙ sym r, q ∙ sym s)

-- The four cases
abbrev pub untouched : Refusal → List ℕ → Written
untouched r xs = record { answer = Err r; bytes = xs }

pub too_long : (w : Walk) (xs : List ℕ) → 65536 < length xs → written w xs ≡ untouched Long xs
unfolding written
too_long w xs h = rw (lt-ltb 65536 (length xs) h)

pub refusing : (w : Walk) (xs : List ℕ) (r : Refusal) → length xs ≤ 65536 → (run w).end ≡ refused r → written w xs ≡ untouched r xs
unfolding written
refusing w xs r l e = rw (le-ltb 65536 (length xs) l, e)

module _ (w : Walk) (xs : List ℕ) (l : length xs ≤ 65536) (bs : Bits) (e : run w ≡ wrote bs) where
  pub too_short : length xs < whole_bytes (length bs) → written w xs ≡ untouched (Short (whole_bytes (length bs))) xs
  unfolding written
  too_short h = rw (le-ltb 65536 (length xs) l, e, lt-ltb (length xs) (whole_bytes (length bs)) h)

  pub fits : whole_bytes (length bs) ≤ length xs → written w xs ≡ record { answer = Ok (whole_bytes (length bs)); bytes = put xs 0 bs }
  unfolding written
  fits h = rw (le-ltb 65536 (length xs) l, e, le-ltb (length xs) (whole_bytes (length bs)) h)

  -- every byte beyond the count is left
  pub beyond : whole_bytes (length bs) ≤ length xs → drop (whole_bytes (length bs)) (written w xs).bytes ≡ drop (whole_bytes (length bs)) xs
  beyond h = rw (fits h) (put_beyond xs 0 bs (whole_bytes (length bs)) (omega arith))

-- A record is written where its walk came to its end
pub done_is_ended : {w : Walk} {xs ys : List ℕ} {a : Answer} {n : ℕ} → Writes w xs a ys → a ≡ Ok n → (run w).end ≡ done
unfolding written
done_is_ended {w} {xs} {a} {n} (writes p q) e = go (run w).end refl
  where
    go : (k : End) → (run w).end ≡ k → (run w).end ≡ done
    go done h = h
    go (refused r) h = let t = ltb 65536 (length xs) in let k : Ok n ≡ Err (cond t Long r) = sym e ∙ rw h at p ∙ cond-ap Err t Long r in let z : ◌≡◌ {A = ℕ} 0 1 = cc in absurd (omega arith)

-- A walk that is done wrote its bits
pub wrote_all : (o : Out) → o.end ≡ done → o ≡ wrote o.bits
wrote_all o e = λ i. record { bits = o.bits; end = e i }

ended-few : {n : ℕ} {w : Walk} → Few n w → (run w).end ≡ done → length (run w).bits ≤ n
ended-few {w = w} F e = F.most (run w).bits (wrote_all (run w) e)

-- The first pass goes over no bytes from place 0 on; it
module _ {w : Walk} {a b : BitWriter} {s : Result Unit Refusal} (zero : a.at ≡ 0) (p : Walked w a b s) where
  -- ends at the number of bits,
  pub counts : {n : ℕ} → Few n w → n ≤ 2000000 → s ≡ Ok tt → ((run w).end ≡ done) × (b.at ≡ length (run w).bits) × (b.at ≤ n)
  counts {n} F m q =
      let h = went p q in
      let e : (run w).end ≡ done = ap (λ (o : Out). o.end) h in
      let l = ended-few F e in
      let f : b.at ≡ forward 0 (length (run w).bits) = place p ∙ ap (λ (k : ℕ). forward k (length (run w).bits)) zero in
      (e, omega arith, omega arith)

  -- and tells the answer
  tells : (len : ℕ) → Few 2000000 w → verdict s b.at len ≡ answer_to (run w).end (length (run w).bits) len
  unfolding verdict
  tells len F = ap (cond (ltb 65536 len) (Err Long)) (go (run w).end refl (answered p))
    where
      go : (k : End) → (run w).end ≡ k → s ≡ answer k → after_answer s b.at len ≡ after_walk k (length (run w).bits) len
      go done e h =
          let l = ended-few F e in
          let f : b.at ≡ length (run w).bits = (counts F (lit≤ tt) h).1 in
          let g : capped (whole_bytes (length (run w).bits)) ≡ whole_bytes (length (run w).bits) = omega arith in
          rw (h, f, g) refl
      go (refused r) e h = rw h refl

module _ {w : Walk} {a b : BitWriter} {s : Result Unit Refusal} (xs : List ℕ) {t : Answer} (F : Few 2000000 w) (zero : a.at ≡ 0) (p : Walked w a b s) (q : t ≡ verdict s b.at (length xs)) where
  is : t ≡ answer_to (run w).end (length (run w).bits) (length xs)
  is = q ∙ tells zero p (length xs) F

  -- the first pass ends it
  pub ended : {r : Answer} {k d : _} → t ≡ result_from_control_flow k → k ≡ Break d → IsErrAnd r (λ y. y ≡ d.0) → Writes w xs r xs
  unfolding written
  ended {r} {k} {d} e h z =
      let q = passed d.0 r z in
      let g = sym (broke k e h) ∙ is in
      writes (q ∙ g) (ap (λ (z : Answer). stored z (run w).bits xs) g)

  -- there is room, and the second pass writes
  pub filled : {n : ℕ} {k : _} {c d : BitWriter} {u : Result Unit Refusal} → t ≡ result_from_control_flow k → k ≡ Continue n → Walked w c d u → c.at ≡ 0 → c.out.now ≡ xs
      → {ys : List ℕ} → ys ≡ d.out.now → Writes w xs (Ok n) ys
  unfolding written
  filled {k = k} e h g o l y =
      let q = sym (taken k e h) ∙ is in
      writes q (y ∙ bytes g ∙ (λ i. put (l i) (o i) (run w).bits) ∙ ap (λ (z : Answer). stored z (run w).bits xs) q)

  -- which refuses nothing
  pub no_refusal : {n : ℕ} {k m f : _} {c d : BitWriter} {u : Result Unit Refusal} → t ≡ result_from_control_flow k → k ≡ Continue n → Walked w c d u → u ≡ result_from_control_flow m → m ≡ Break f
      → {r : Answer} {ys : List ℕ} → Writes w xs r ys
  unfolding written
  no_refusal {k = k} {m} e h g o l =
      let q = done_is_ended {ys = (written w xs).bytes} (writes is refl) (taken k e h) in
      absurd (ok-err (sym (answered g ∙ ap answer q) ∙ broke m o l))
