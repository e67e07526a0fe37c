-- The most bits that a walk can write.
use mathlib.Core.Bool.{Bool, true, false, cond}
use mathlib.Core.List.{[]}
use Prim.Native.Nat.{ℕ, ◌+◌, ◌^◌, ◌≤◌, max}
use native.Mathlib.Omega.{arith}
use lib.Dec.{ltb}
use lib.ListN.{length, length-append}
use Rattle.bits.specs.Bits.{Bits, to_bits}
use Rattle.bits.specs.Walk.{Walk, none, field, mark, demand, refuse, either, ◌⊕◌, End, done, refused, Out, wrote, refuses, after, join, run, bound}
use Rattle.bits.proofs.Numbers.{length-to_bits}

bound-cond : (t : Bool) (o p : Out) {n m : ℕ} → length o.bits ≤ n → length p.bits ≤ m → length (cond t o p).bits ≤ max n m
bound-cond true o p h k = omega arith
bound-cond false o p h k = omega arith

bound-join : (k : End) (bs : Bits) (p : Out) → length (after k bs p).bits ≤ length bs + length p.bits
bound-join done bs p = omega (arith, length-append bs p.bits)
bound-join (refused r) bs p = omega arith

pub bounded : (w : Walk) → length (run w).bits ≤ bound w
unfolding run bound join
bounded none = omega arith
bounded (field n v r) = omega (arith, bound-cond (ltb v (2 ^ n)) (wrote (to_bits n v)) (refuses r) {n = n} {m = 0} (omega (arith, length-to_bits n v)) (omega arith))
bounded (mark b) = omega arith
bounded (demand t r) = omega (arith, bound-cond t (wrote []) (refuses r) {n = 0} {m = 0} (omega arith) (omega arith))
bounded (refuse r) = omega arith
bounded (either t a b) = bound-cond t (run a) (run b) (bounded a) (bounded b)
bounded (a ⊕ b) = omega (arith, bound-join (run a).end (run a).bits (run b), bounded a, bounded b)
