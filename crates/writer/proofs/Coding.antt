-- How the code of f(n), uvlc and leb128 meets its walk.
use mathlib.Core.Path.{◌≡◌, refl, sym, ◌∙◌}
use mathlib.Core.Bool.{true}
use Prim.Native.Nat.{ℕ, ◌+◌, ◌-◌, ◌^◌, ◌/◌, ◌%◌, ◌≤◌, ◌<◌}
use native.Mathlib.Omega.{arith}
use lib.Pow.{pow_pos}
use borrow.Author.Tests.{lt-ltb, le-ltb}
use Rattle.std.specs.Prelude.{Ok, Err}
use Rattle.std.specs.Result.{IsErrAnd, result_from_control_flow}
use Rattle.std.proofs.Common.{Continue, Break}
use Rattle.bits.specs.Bits.{to_bits, put}
use Rattle.bits.specs.Widths.{width_up_to, bit_length}
use Rattle.bits.specs.Walk.{Walk, field, unsigned}
use Rattle.bits.specs.Codes.{uvlc, leb128}
use Rattle.bits.specs.declared.answer.Refusal.TheVariants.{Unfit}
use Rattle.bits.proofs.Widths.{bit_more, bit_is, up_to_is}
use Rattle.bits.proofs.CodeLaws.{leb_more, leb_last}
use Rattle.writer.specs.Walked.{forward, Walked}
use Rattle.writer.specs.declared.BitWriter.{BitWriter}
use Rattle.writer.proofs.Walking.{Answer, field-done, hop, halt_here, held_then, broken, Left, left_all, left_more, left_halt, as_run}

-- the width that the refusal of f(n) says
pub f_by : (n v e i w : ℕ) {a b : BitWriter} {s : Answer} → w ≡ bit_length v → Walked (field n v (Unfit e i w)) a b s → Walked (unsigned n v e i) a b s
f_by n v e i w q g = rw q at g

pub zeros-done : (n : ℕ) {a b : BitWriter} → b.out.now ≡ put a.out.now a.at (to_bits n 0) → b.at ≡ forward a.at n → b.out.ghost_name ≡ a.out.ghost_name → Walked (unsigned n 0 0 0) a b (Ok tt)
zeros-done n y x g = field-done n 0 _ true (sym (lt-ltb 0 (2 ^ n) (pow_pos n))) refl y x g

-- uvlc: the bit length L of v + 1
module _ (v L : ℕ) (few : v < 2 ^ 32) (fits : v ≡ 4294967295 → ⊥) (is : L ≡ bit_length (v + 1)) where
  pub length_some : 1 ≤ L
  length_some = omega (arith, bit_more (v + 1) 0 (omega arith))

  pub uvlc-done : (e i : ℕ) {a b c : BitWriter} {s : Answer} → Walked (unsigned (L - 1) 0 0 0) a b (Ok tt) → Walked (unsigned L (v + 1) e i) b c s → Walked ((uvlc e i).enc v) a c s
  unfolding uvlc
  uvlc-done e i w u =
      let q : width_up_to 32 (v + 1) ≡ L = up_to_is 32 (v + 1) (omega arith) ∙ sym is in
      held_then (lt-ltb v (2 ^ 32 - 1) (omega arith)) (rw q (hop w refl u))

pub uvlc_unfit : (v e i : ℕ) {a : BitWriter} → v ≡ 4294967295 → Walked ((uvlc e i).enc v) a a (Err (Unfit e i 33))
unfolding uvlc
uvlc_unfit v e i h =
    let q : 33 ≡ bit_length (v + 1) = sym (bit_is (v + 1) 32 (omega arith) (omega arith)) in
    rw q (halt_here (broken (le-ltb v (2 ^ 32 - 1) (omega arith))))

-- leb128: of the walk T, the leb128 of n is left, in some bytes that it fits
pub record Goes (T : Walk) (a : BitWriter) (n : ℕ) (b : BitWriter) : Type 0 where
  pub k : ℕ
  pub left : Left T a ((leb128 k).enc n) b
  pub small : n < 128 ^ k
  pub some : 0 < k

pub goes_all : (n : ℕ) (a : BitWriter) → n < 2 ^ 32 → Goes ((leb128 8).enc n) a n a
goes_all n a h = record { k = 8; left = left_all a refl; small = omega arith; some = omega arith }

module _ {T : Walk} {a b c : BitWriter} {n : ℕ} {s : Answer} (g : Goes T a n b) where
  module _ {k : _} (l : 128 ≤ n) (w : Walked (unsigned 8 (128 + n % 128) 0 0) b c s) (e : s ≡ result_from_control_flow k) where
    pub goes_on : {x : Unit {0}} → k ≡ Continue x → Goes T a (n / 128) c
    goes_on h =
        let m = leb_more g.k n (n / 128) l g.small refl in
        record { k = g.k - 1; left = left_more g.left w e m.2 h; small = m.1; some = m.0 }

    pub goes_halt : {r : Answer} {d : _} → k ≡ Break d → IsErrAnd r (λ y. y ≡ d.0) → Walked T a c r
    goes_halt h z = left_halt g.left w e ((leb128 (g.k - 1)).enc (n / 128)) (leb_more g.k n (n / 128) l g.small refl).2 h z

  pub goes_end : n < 128 → Walked (unsigned 8 n 0 0) b c s → Walked T a c s
  goes_end l w = g.left.rest c s (as_run (leb_last g.k n l g.small g.some) w)
