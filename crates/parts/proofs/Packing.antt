-- Fields one behind another, stored as one.
use mathlib.Core.Path.{◌≡◌, refl, sym, ap, ◌∙◌}
use mathlib.Core.List.{append_assoc}
use mathlib.Core.Bool.{true}
use Prim.Native.Nat.{ℕ, ◌+◌, ◌*◌, ◌^◌, ◌<◌}
use native.Mathlib.Omega.{arith}
use lib.Arith.{digits_lt}
use lib.Pow.{pow-add}
use Rattle.bits.specs.Bits.{Bits, bit_at, to_bits}
use Rattle.bits.specs.Walk.{Walk, field, mark, ◌⊕◌, End, done, refused, Out, wrote, after, join, run}
use Rattle.bits.specs.declared.answer.Refusal.{Refusal}
use Rattle.writer.specs.Walked.{Walked}
use Rattle.writer.specs.declared.BitWriter.{BitWriter}
use Rattle.writer.proofs.Walking.{Answer as Step}
use Rattle.std.specs.Result.{IsErrAnd, result_from_control_flow}
use Rattle.std.proofs.Common.{Continue, Break}
use Rattle.bits.proofs.Laws.{joined}
use Rattle.bits.proofs.Leaves.{field-run}
use Rattle.bits.proofs.Words.{bits-join}
use Rattle.writer.proofs.Walking.{as_run, on, off}

-- two walks that write a number each
pub both_run : (n m a b : ℕ) {o p : Out} → o ≡ wrote (to_bits n a) → p ≡ wrote (to_bits m b) → b < 2 ^ m → join o p ≡ wrote (to_bits (n + m) (a * 2 ^ m + b))
both_run n m a b h k l = joined h k ∙ ap (λ (x : Bits). wrote x) (sym (bits-join n m a b l))

-- a walk that writes a number, by one field
pub by_field : (n a : ℕ) {r : Refusal} {w : Walk} {c d : BitWriter} {s : Step} → run w ≡ wrote (to_bits n a) → a < 2 ^ n → Walked (field n a r) c d s → Walked w c d s
by_field n a {r} h l g = as_run (field-run n a r l ∙ sym h) g

pub double : (n half : ℕ) → half ≡ 2 ^ n → 2 ^ (n + 1) ≡ half * 2
double n half h = rw (pow-add 2 n 1, h)

-- a set flag and a walk that writes a number of n bits
pub flag-field : (n top code : ℕ) {r : Refusal} {w : Walk} {c d : BitWriter} {s : Step} → top ≡ 2 ^ n → run w ≡ wrote (to_bits n code) → code < top
    → Walked (field (n + 1) (top + code) r) c d s → Walked (mark true ⊕ w) c d s
unfolding run to_bits bit_at
flag-field n top code h k l g =
    let a : 1 + n ≡ n + 1 = omega arith in
    let b : 1 * 2 ^ n + code ≡ top + code = omega arith in
    by_field (n + 1) (top + code) (rw (a, b) at (both_run 1 n 1 code refl k (rw (← h) l))) (omega (arith, double n top h)) g

-- two fields of n bits
pub pair_packed : (n top a b : ℕ) (p q : Refusal) {r : Refusal} {c d : BitWriter} {s : Step} → top ≡ 2 ^ n → a < top → b < top → Walked (field (n * 2) (a * top + b) r) c d s → Walked (field n a p ⊕ field n b q) c d s
unfolding run
pair_packed n top a b p q h k l g =
    let m : n * 2 ≡ n + n = omega arith in
    let u : a < 2 ^ n = rw (← h) k in
    let v : b < 2 ^ n = rw (← h) l in
    by_field (n * 2) (a * top + b) (rw (m, h) (both_run n n a b (field-run n a p u) (field-run n b q v) v)) (rw (m, h, pow-add) (digits_lt u v)) g

-- what comes behind two steps that were made as one
join_assoc : (d e : End) (x y : Bits) (p : Out) → join (after d x (record { bits = y; end = e })) p ≡ after d x (after e y p)
unfolding join
join_assoc done done x y p = λ i. record { bits = append_assoc x y p.bits i; end = p.end }
join_assoc done (refused r) x y p = refl
join_assoc (refused r) e x y p = refl

grouped : {u v w : Walk} {c far : BitWriter} {t : Step} → Walked ((u ⊕ v) ⊕ w) c far t → Walked (u ⊕ (v ⊕ w)) c far t
unfolding run join
grouped {u} {v} {w} g = as_run (join_assoc (run u).end (run v).end (run u).bits (run v).bits (run w)) g

module _ {u v w : Walk} {c d : BitWriter} {s : Step} where
  pub pair_then : {far : BitWriter} {t : Step} {k : _} {x : Unit {0}} → Walked (u ⊕ v) c d s → s ≡ result_from_control_flow k → k ≡ Continue x → Walked w d far t → Walked (u ⊕ (v ⊕ w)) c far t
  pair_then g q h k = grouped (on g q h k)

  pub pair_halt : {r : Step} {k n : _} → Walked (u ⊕ v) c d s → s ≡ result_from_control_flow k → k ≡ Break n → IsErrAnd r (λ y. y ≡ n.0) → Walked (u ⊕ (v ⊕ w)) c d r
  pair_halt g q h z = grouped (off g q h z)
