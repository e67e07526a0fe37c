-- Bytes, one behind another, as one number: its bits are theirs.
use mathlib.Core.Path.{◌≡◌, refl, sym, ◌∙◌, ap}
use mathlib.Core.List.{List, ◌∷◌, ◌++◌, append_assoc}
use Prim.Native.Nat.{ℕ, zero, suc, ◌+◌, ◌*◌, ◌^◌, ◌/◌, ◌%◌, ◌<◌, ◌≤◌}
use native.Mathlib.Omega.{arith}
use native.Mathlib.Nat.{zero-add, suc-add, add_comm}
use lib.ListN.{length, get_or}
use lib.Dec.{lit<, eqb}
use lib.Pow.{pow-add, shr-shr}
use lib.Arith.{digits_lt, digits_div, digits_mod}
use Rattle.bits.specs.Bits.{Bits, bit_at, to_bits, from, end}
use Rattle.bits.proofs.Numbers.{to_bits_mod}
use Rattle.bits.proofs.Places.{end_is, from_chunk}

-- the k high bits of k + m, and the m low ones
pub bits_split : (k m v : ℕ) → to_bits (k + m) v ≡ to_bits k (v / 2 ^ m) ++ to_bits m v
unfolding to_bits bit_at
bits_split zero m v = rw zero-add
bits_split (suc k) m v = rw (suc-add, shr-shr, add_comm m k) (ap (λ (l : Bits). eqb (v / 2 ^ (k + m) % 2) 1 ∷ l) (bits_split k m v))

-- a number x of m bits behind another
pub bits-join : (k m v x : ℕ) → x < 2 ^ m → to_bits (k + m) (v * 2 ^ m + x) ≡ to_bits k v ++ to_bits m x
bits-join k m v x h =
    let t : to_bits m (v * 2 ^ m + x) ≡ to_bits m x = sym (to_bits_mod m m (v * 2 ^ m + x) (omega arith)) ∙ ap (to_bits m) (digits_mod v h) in
    bits_split k m (v * 2 ^ m + x) ∙ rw (digits_div v h, t)

-- Of the m bytes from i on, k have been read, up to the byte j: the number v.
pub record Window (m : ℕ) (xs : List ℕ) (i v k j : ℕ) : Type 0 where
  pub so : from xs (i * 8) ≡ to_bits (k * 8) v ++ from xs (j * 8)
  pub small : v < 2 ^ (k * 8)
  pub here : j ≡ i + k
  pub most : k ≤ m
  pub room : i * 8 + m * 8 ≤ end xs

pub window_all : {m : ℕ} {xs : List ℕ} {i : ℕ} → i * 8 + m * 8 ≤ end xs → Window m xs i 0 0 i
unfolding to_bits
window_all h = record { so = refl; small = lit< tt; here = omega arith; most = omega arith; room = h }

module _ {m : ℕ} {xs : List ℕ} {i v k j : ℕ} (g : Window m xs i v k j) where
  module _ (h : k < m) where
    pub window_in : j < length xs
    window_in = omega (arith, g.here, g.room, end_is xs)

    pub window_next : j + 1 < 2 ^ 64
    window_next = omega (arith, g.here, g.room, end_is xs)

    pub window_on : {r : ℕ} → r ≡ v * 256 + get_or xs j 0 → get_or xs j 0 < 256 → Window m xs i r (k + 1) (j + 1)
    window_on {r} e b =
        let a : j * 8 / 8 ≡ j = omega arith in
        let n : j * 8 + 8 ≡ (j + 1) * 8 = omega arith in
        let o : get_or xs j 0 / 2 ^ 0 ≡ get_or xs j 0 = omega arith in
        let p : (k + 1) * 8 ≡ k * 8 + 8 = omega arith in
        let c : from xs (j * 8) ≡ to_bits 8 (get_or xs j 0) ++ from xs ((j + 1) * 8) = rw (a, n, o) at (from_chunk xs (j * 8) 8 0 (omega (arith, g.here, g.room)) (omega arith)) in
        let y : Bits = from xs ((j + 1) * 8) in
        let t : to_bits (k * 8) v ++ from xs (j * 8) ≡ to_bits (k * 8) v ++ (to_bits 8 (get_or xs j 0) ++ y) = ap (λ (l : Bits). to_bits (k * 8) v ++ l) c in
        let u : to_bits (k * 8) v ++ (to_bits 8 (get_or xs j 0) ++ y) ≡ (to_bits (k * 8) v ++ to_bits 8 (get_or xs j 0)) ++ y = sym (append_assoc (to_bits (k * 8) v) (to_bits 8 (get_or xs j 0)) y) in
        let z : (to_bits (k * 8) v ++ to_bits 8 (get_or xs j 0)) ++ y ≡ to_bits ((k + 1) * 8) r ++ y = rw (p, e) (ap (λ (l : Bits). l ++ y) (sym (bits-join (k * 8) 8 v (get_or xs j 0) b))) in
        record {
          so = g.so ∙ t ∙ u ∙ z;
          small = rw (e, p, pow-add) (digits_lt g.small b);
          here = omega (arith, g.here);
          most = omega arith;
          room = g.room;
        }

  pub window_end : m ≤ k → from xs (i * 8) ≡ to_bits (m * 8) v ++ from xs (i * 8 + m * 8)
  window_end h =
      let e : k ≡ m = omega (arith, g.most) in
      let n : j * 8 ≡ i * 8 + m * 8 = omega (arith, g.here, g.most) in
      rw (e, n) at g.so
