-- The codes of su(n) as the code computes them.
use mathlib.Core.Path.{◌≡◌, refl, ap, ◌∙◌}
use Prim.Native.Nat.{ℕ, suc, ◌+◌, ◌-◌, ◌*◌, ◌%◌, ◌^◌, ◌≤◌, ◌<◌, min}
use native.Mathlib.Nat.{mod-eq_of_lt, suc-mul, add-zero}
use native.Mathlib.Omega.{arith}
use lib.IntN.{ℤ, pos, negsuc}
use lib.Signed.{mag, lt_z}
use lib.Pow.{pow_pos, pow-add, low}
use mir.Syntax.{w32}
use mir.Val.{SFits, to_z, of_z}
use borrow.Author.Tests.{lt-ltb, le-ltb, le-leb}
use Rattle.bits.specs.Bits.{bit}
use Rattle.bits.specs.Widths.{bit_length, signed_length}
use Rattle.bits.specs.Walk.{field}
use Rattle.bits.specs.Codes.{su_out, su}
use Rattle.bits.specs.declared.answer.Refusal.TheVariants.{Unfit}
use Rattle.writer.specs.Walked.{Walked}
use Rattle.writer.specs.declared.BitWriter.{BitWriter}
use Rattle.writer.proofs.Walking.{Answer}
use Rattle.bits.proofs.Signs.{same}

-- The place of a number in the row 0, -1, 1, -2, 2, ..
abbrev place : ℤ → ℕ
place z = mag z * 2 + bit (lt_z z (pos 0))

pub place_length : (z : ℤ) → bit_length (place z) ≡ signed_length z
unfolding signed_length
place_length (pos m) = rw (le-ltb m 0 (omega arith), add-zero) refl
place_length (negsuc m) = refl

-- its low bits in two's complement
low_bits : (m n : ℕ) → n ≤ 32 → m < 2 ^ n → (2 ^ 32 - suc m) % 2 ^ n ≡ 2 ^ n - suc m
low_bits m n l h =
    let a = 2 ^ (32 - n) in
    let k : 32 ≡ 32 - n + n = omega arith in
    let p : 2 ^ 32 ≡ a * 2 ^ n = ap (λ (i : ℕ). 2 ^ i) k ∙ pow-add 2 (32 - n) n in
    let s : a ≡ suc (a - 1) = omega (arith, pow_pos (32 - n)) in
    let q : a * 2 ^ n ≡ (a - 1) * 2 ^ n + 2 ^ n = ap (λ (x : ℕ). x * 2 ^ n) s ∙ suc-mul (a - 1) (2 ^ n) in
    let e : 2 ^ 32 - suc m ≡ (a - 1) * 2 ^ n + (2 ^ n - suc m) = omega (arith, p, q) in
    ap (λ (x : ℕ). x % 2 ^ n) e ∙ low (a - 1) n (omega arith)

pub code_is : (n : ℕ) (z : ℤ) → n ≤ 32 → place z < 2 ^ n → of_z w32 z % 2 ^ n ≡ su_out n z
code_is n (pos m) l h = rw (lt-ltb (m * 2) (2 ^ n) (omega (arith, h))) (mod-eq_of_lt (omega arith))
code_is n (negsuc m) l h = rw (le-leb (suc m * 2) (2 ^ n) (omega arith)) (low_bits m n l (omega arith))

-- the field that holds the code, and the width that its refusal says
pub su_by : (n w : ℕ) (z : ℤ) (k e i r : ℕ) {a b : BitWriter} {s : Answer} → SFits w32 z → w ≡ min n 32 → k ≡ su_out w (to_z w32 (of_z w32 z)) → r ≡ signed_length (to_z w32 (of_z w32 z))
    → Walked (field w k (Unfit e i r)) a b s → Walked ((su (min n 32) e i).enc z) a b s
unfolding su
su_by n w z k e i r h p q l g = rw (← p, ← (rw (same w32 z h) at q), ← (rw (same w32 z h) at l)) g
