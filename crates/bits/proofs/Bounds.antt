-- What was read fits.
use mathlib.Core.Path.{subst}
use mathlib.Core.List.{List}
use Prim.Native.Nat.{ℕ, ◌+◌, ◌^◌, ◌<◌, ◌≤◌}
use native.Mathlib.Omega.{arith}
use lib.Pow.{pow_pos}
use Rattle.bits.specs.Bits.{Bits, from_bits}
use Rattle.bits.specs.Codec.{take_bits, f}
use Rattle.bits.specs.Codes.{unary}
use Rattle.bits.specs.Lawful.{strict}
use Rattle.bits.specs.Answers.{Reads, found}
use Rattle.std.specs.Prelude.{Ok}
use Rattle.bits.proofs.Numbers.{from_lt}
use Rattle.bits.proofs.Leaves.{take_inv, f_law, f_fits}
use Rattle.bits.proofs.CodeLaws.{zeros_inv, one_inv}

pub bits_small : {xs : List ℕ} {c q : ℕ} {bs : Bits} (n : ℕ) → Reads (take_bits n) xs c (Ok (bs, q)) → from_bits bs < 2 ^ n
unfolding found
bits_small {bs = bs} n r = subst (λ (k : ℕ). from_bits bs < 2 ^ k) (take_inv n _ _ _ r.finds).0 (from_lt bs)

pub f_small : {xs : List ℕ} {c q : ℕ} {v : ℕ} (n e i : ℕ) → Reads (f n e i).dec xs c (Ok (v, q)) → v < 2 ^ n
unfolding found
f_small {v = v} n e i r = let s = (f_law {g = strict} n e i).sound _ _ _ r.finds in f_fits n e i v s.0 s.1

pub unary_small : {xs : List ℕ} {c q : ℕ} {z : ℕ} (m e i : ℕ) → Reads (unary m e i) xs c (Ok (z, q)) → z ≤ m
unfolding found
unary_small m e i r = (zeros_inv m e i _ _ _ r.finds).0

-- behind uvlc's zeros stands a one
pub one_some : {xs : List ℕ} {c p q : ℕ} {z w : ℕ} (m e i : ℕ) → Reads (unary m e i) xs c (Ok (z, p)) → Reads (f (z + 1) 0 0).dec xs p (Ok (w, q)) → 0 < w
unfolding found
one_some {z = z} m e i r s =
    let t = zeros_inv m e i _ _ _ r.finds in
    omega (arith, pow_pos z, one_inv z 0 0 t.2 _ _ _ t.3 s.finds)
