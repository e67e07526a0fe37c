-- The loop that reads a field by bytes: the value so far, and the bits to go.
use mathlib.Core.Path.{◌≡◌, refl, sym, ◌∙◌, ap}
use mathlib.Core.List.{List, [], ◌∷◌, ◌++◌}
use mathlib.Core.Logic.{⊎_elim}
use mathlib.Core.Bool.{Bool}
use Prim.Native.Nat.{ℕ, zero, suc, ◌+◌, ◌-◌, ◌*◌, ◌^◌, ◌/◌, ◌%◌, ◌<◌, ◌≤◌, min}
use native.Mathlib.Omega.{arith}
use native.Mathlib.Nat.{mod-lt, zero-add, suc-add, mul-le-mul_left}
use lib.ListN.{length, get_or, drop}
use lib.Seq.{drop_at}
use lib.Dec.{lit<, eqb}
use lib.Pow.{pow_mono, pow_pos, pow-add}
use lib.Arith.{digits_lt}
use Rattle.std.specs.Prelude.{Ok, Err}
use Rattle.bits.specs.Bits.{Bits, bit, bit_at, to_bits, from_bits, limit, from, end}
use Rattle.bits.specs.Codec.{Got, got, stop, and_then, take_bits, f, flag, nil}
use Rattle.bits.specs.Answers.{found, Moved}
use Rattle.bits.specs.declared.answer.Refusal.TheVariants.{Ends}
use Rattle.reader.specs.declared.BitReader.{BitReader}
use Rattle.reader.specs.Reading.{Said, said}
use Rattle.bits.proofs.Numbers.{length-to_bits, from-to, pow_two}
use Rattle.bits.proofs.Leaves.{take_inv}
use Rattle.bits.proofs.Storing.{below_or}
use Rattle.bits.proofs.Places.{end_is, length_from, from-bit, from_end, from_chunk, from-drop}

-- k bits more behind the value acc
unfoldable pub read_on : ℕ → ℕ → Bits → Got ℕ
read_on acc k bs = and_then (take_bits k bs) (λ xs rest. got (acc * 2 ^ k + from_bits xs) rest)

read_all : (n : ℕ) (bs : Bits) → read_on 0 n bs ≡ (f n 0 0).dec bs
unfolding read_on f
read_all n bs = go (take_bits n bs)
  where
    go : (g : Got Bits) → and_then g (λ xs rest. got (0 * 2 ^ n + from_bits xs) rest) ≡ and_then g (λ xs rest. got (from_bits xs) rest)
    go (got xs rest) = ap (λ (x : ℕ). got x rest) (omega arith)
    go (stop r) = refl

read-bit : (acc k : ℕ) (b : Bool) (bs : Bits) → read_on acc (suc k) (b ∷ bs) ≡ read_on (acc * 2 + bit b) k bs
unfolding read_on take_bits from_bits
read-bit acc k b bs = go (take_bits k bs) (λ xs rest h. (take_inv k bs xs rest h).0)
  where
    add : (n : ℕ) (xs : Bits) → length xs ≡ n → acc * 2 ^ suc n + (bit b * 2 ^ length xs + from_bits xs) ≡ (acc * 2 + bit b) * 2 ^ n + from_bits xs
    add n xs l = rw (l, pow_two n) (omega arith)

    go : (g : Got Bits) → ((xs rest : Bits) → g ≡ got xs rest → length xs ≡ k)
        → and_then (and_then g (λ xs rest. got (b ∷ xs) rest)) (λ xs rest. got (acc * 2 ^ suc k + from_bits xs) rest) ≡ and_then g (λ xs rest. got ((acc * 2 + bit b) * 2 ^ k + from_bits xs) rest)
    go (got xs rest) h = ap (λ (x : ℕ). got x rest) (add k xs (h xs rest refl))
    go (stop r) h = refl

read-run : (acc m : ℕ) (xs bs : Bits) → read_on acc (length xs + m) (xs ++ bs) ≡ read_on (acc * 2 ^ length xs + from_bits xs) m bs
unfolding from_bits
read-run acc m [] bs = let e : acc * 1 + 0 ≡ acc = omega arith in rw (zero-add, e)
read-run acc m (x ∷ xs) bs =
    let e : (acc * 2 + bit x) * 2 ^ length xs + from_bits xs ≡ acc * 2 ^ suc (length xs) + (bit x * 2 ^ length xs + from_bits xs) = rw (pow_two (length xs)) (omega arith) in
    rw suc-add (read-bit acc (length xs + m) x (xs ++ bs) ∙ read-run (acc * 2 + bit x) m xs bs ∙ ap (λ (a : ℕ). read_on a m bs) e)

-- the k low bits of u, and m bits more
read_chunk : (acc k m u : ℕ) (bs : Bits) → read_on acc (k + m) (to_bits k u ++ bs) ≡ read_on (acc * 2 ^ k + u % 2 ^ k) m bs
read_chunk acc k m u bs = rw (length-to_bits, from-to) at (read-run acc m (to_bits k u) bs)

read_none : (acc : ℕ) (bs : Bits) → read_on acc 0 bs ≡ got acc bs
unfolding read_on take_bits from_bits
read_none acc bs = ap (λ (x : ℕ). got x bs) (omega arith)

take_short : (n : ℕ) (bs : Bits) → length bs < n → take_bits n bs ≡ stop Ends
unfolding take_bits
take_short zero bs h = absurd (omega arith)
take_short (suc n) [] h = refl
take_short (suc n) (b ∷ bs) h = rw (take_short n bs (omega arith))

-- a place that has a bit is in the bytes
pub byte_there : (xs : List ℕ) (at : ℕ) → at < end xs → at / 8 < length xs
byte_there xs at h = omega (arith, end_is xs)

pub place_there : (xs : List ℕ) (at : ℕ) → at < end xs → at < limit
place_there xs at h = omega (arith, end_is xs)

-- Of a field of w bits at the place p, `left` bits are to go, from `at` on, behind the value acc.
pub record Fielded (xs : List ℕ) (p w acc left at : ℕ) : Type 0 where
  pub so : read_on acc left (from xs at) ≡ (f w 0 0).dec (from xs p)
  pub small : acc < 2 ^ (w - left)
  pub most : left ≤ w
  pub here : at + left ≡ p + w
  pub room : w ≤ end xs - p
  pub narrow : w ≤ 32

pub fielded_all : {xs : List ℕ} {p w : ℕ} → w ≤ 32 → w ≤ end xs - p → Fielded xs p w 0 w p
fielded_all {xs} {p} {w} h l =
    let e : w - w ≡ 0 = omega arith in
    record { so = read_all w (from xs p); small = rw e (lit< tt); most = omega arith; here = refl; room = l; narrow = h }

module _ {xs : List ℕ} {p w acc left at : ℕ} (g : Fielded xs p w acc left at) where
  pub inside : 0 < left → at < end xs
  inside h = omega (arith, g.here, g.room)

  pub byte_inside : 0 < left → at / 8 < length xs
  byte_inside h = byte_there xs at (inside h)

  pub place_inside : 0 < left → at < limit
  place_inside h = place_there xs at (inside h)

  pub value_small : acc < 2 ^ 32
  value_small = let h : 2 ^ (w - left) ≤ 2 ^ 32 = pow_mono {j = 32} (omega (arith, g.narrow)) in omega (arith, g.small)

  -- a turn of the loop: k bits, of which there is room in the byte at the place
  module _ (k : ℕ) (h : k ≡ min left (8 - at % 8)) where
    pub place_fits : 0 < left → at + k < 2 ^ 64
    place_fits z = omega (arith, place_inside z)

    module _ (q : ℕ) (e : q ≡ 2 ^ k) where
      times : acc * q < 2 ^ 40
      times =
          let m : 2 ^ k ≤ 2 ^ 8 = pow_mono {j = 8} (omega arith) in
          omega (arith, value_small, mul-le-mul_left {m = q} {n = 256} acc (omega arith))

      pub value_times : acc * q < 2 ^ 64
      value_times = omega (arith, times)

      module _ (u : ℕ) (v : u ≡ get_or xs (at / 8) 0 / 2 ^ (8 - at % 8 - k) % 2 ^ k) where
        below : u < 2 ^ k
        below = rw v (mod-lt (get_or xs (at / 8) 0 / 2 ^ (8 - at % 8 - k)) (pow_pos k))

        pub value_more : acc * q + u < 2 ^ 64
        value_more = let m : 2 ^ k ≤ 2 ^ 8 = pow_mono {j = 8} (omega arith) in omega (arith, times, below)

        pub fielded_on : 0 < left → Fielded xs p w (acc * q + u) (left - k) (at + k)
        fielded_on z =
            let d = 8 - at % 8 - k in
            let x = get_or xs (at / 8) 0 / 2 ^ d in
            let n : left ≡ k + (left - k) = omega arith in
            let s : w - (left - k) ≡ w - left + k = omega (arith, g.most) in
            let t : read_on acc left (from xs at) ≡ read_on (acc * 2 ^ k + u) (left - k) (from xs (at + k)) =
            rw (v, from_chunk xs at k d (inside z) (omega arith)) (ap (λ (j : ℕ). read_on acc j (to_bits k x ++ from xs (at + k))) n ∙ read_chunk acc k (left - k) x (from xs (at + k))) in
            record {
              so = rw e (sym t ∙ g.so);
              small = rw (e, s, pow-add) (digits_lt g.small below);
              most = omega (arith, g.most);
              here = omega (arith, g.here);
              room = g.room;
              narrow = g.narrow;
            }

pub fielded_end : {xs : List ℕ} {p w acc left at : ℕ} → Fielded xs p w acc left at → left ≤ 0 → (f w 0 0).dec (from xs p) ≡ got acc (from xs (p + w))
fielded_end {xs} {p} {w} {acc} {left} {at} g h =
    let z : left ≡ 0 = omega arith in
    let a : at ≡ p + w = omega (arith, g.here) in
    sym g.so ∙ rw (z, a) (read_none acc (from xs (p + w)))

-- a field that begins with the n low bits of u
pub read_taken : (n u : ℕ) (xs : List ℕ) (at : ℕ) (ys : Bits) → from xs at ≡ to_bits n u ++ ys → (f n 0 0).dec (from xs at) ≡ got (u % 2 ^ n) (from xs (at + n))
read_taken n u xs at ys h =
    let a : n ≡ n + 0 = omega arith in
    let z : 0 * 2 ^ n + u % 2 ^ n ≡ u % 2 ^ n = omega arith in
    let r : read_on 0 n (from xs at) ≡ got (u % 2 ^ n) ys = ap (read_on 0 n) h ∙ ap (λ (j : ℕ). read_on 0 j (to_bits n u ++ ys)) a ∙ read_chunk 0 n 0 u ys ∙ rw z (read_none (u % 2 ^ n) ys) in
    let d : from xs (at + n) ≡ ys = from-drop xs at n ∙ ap (drop n) h ∙ drop_at (to_bits n u) ys n (length-to_bits n u) in
    sym (read_all n (from xs at)) ∙ r ∙ ap (got (u % 2 ^ n)) (sym d)

-- the answer of a field of w bits, where there are m
module _ (n w m : ℕ) (r : BitReader) (e : w ≡ min n 32) (q : m ≡ end r.bytes.now - r.at) where
  pub field_fits : w ≤ m → r.at < 2 ^ 64 → r.at + w < 2 ^ 64
  field_fits h l = omega (arith, end_is r.bytes.now)

  pub field_there : {v : ℕ} → w ≤ m → (f w 0 0).dec (from r.bytes.now r.at) ≡ got v (from r.bytes.now (r.at + w)) → Said (f (min n 32) 0 0).dec r (record { bytes = r.bytes; at = r.at + w }) (Ok v)
  unfolding found Moved
  field_there h s = rw (← e) (said refl (record { finds = s; moves = omega arith }))

  pub field-ends : m < w → Said (f (min n 32) 0 0).dec r r (Err Ends)
  unfolding f found Moved
  field-ends h = rw (← e) (said refl (record { finds = rw (take_short w (from r.bytes.now r.at) (rw (length_from r.bytes.now r.at) (omega arith))); moves = nil }))

pub ruleset fields = (field_fits, field_there, field-ends)

-- one bit, with m bits from the place on
module _ (r : BitReader) (m : ℕ) (e : m ≡ end r.bytes.now - r.at) where
  pub flag-ends : m ≡ 0 → Said flag.dec r r (Err Ends)
  unfolding flag found Moved
  flag-ends h = said refl (record { finds = rw (from_end r.bytes.now r.at (omega arith)); moves = nil })

  module _ (h : m ≡ 0 → ⊥) where
    there : r.at < end r.bytes.now
    there = ⊎_elim (λ (l : r.at < end r.bytes.now). l) (λ (l : end r.bytes.now ≤ r.at). absurd (h (omega arith))) (below_or r.at (end r.bytes.now))

    pub flag_byte : r.at / 8 < length r.bytes.now
    flag_byte = byte_there r.bytes.now r.at there

    pub flag-place : r.at + 1 < 2 ^ 64
    flag-place = omega (arith, place_there r.bytes.now r.at there)

    pub flag_there : (u : ℕ) → u ≡ get_or r.bytes.now (r.at / 8) 0 / 2 ^ (7 - r.at % 8) % 2 ^ 1 → Said flag.dec r (record { bytes = r.bytes; at = r.at + 1 }) (Ok (eqb u 1))
    unfolding flag found Moved bit_at
    flag_there u v =
        let n : r.at + 1 ≡ suc r.at = omega arith in
        let t = there in
        said refl (record { finds = rw (from-bit r.bytes.now r.at t, n, v) refl; moves = omega arith })

pub ruleset flags = (flag-ends, flag_byte, flag-place, flag_there)
