-- The loops that read uvlc's zeros and leb128's bytes: what is left of the table, and what it finds is counted on.
use mathlib.Core.Path.{◌≡◌, refl, sym, ap, ◌∙◌}
use mathlib.Core.List.{[], ◌∷◌}
use mathlib.Core.Bool.{Bool, true, false}
use Prim.Native.Nat.{ℕ, zero, suc, ◌+◌, ◌-◌, ◌*◌, ◌%◌, ◌^◌, ◌<◌, ◌≤◌, max}
use native.Mathlib.Nat.{zero-add, one-mul, mul-le-mul_right, mul-add, mul_assoc, mul_comm, add_assoc}
use native.Mathlib.Omega.{arith}
use lib.Dec.{ltb}
use lib.Pow.{pow-add, pow_mono}
use borrow.Author.Tests.{lt-ltb, le-ltb}
use Rattle.std.specs.Prelude.{Result, Ok, Err, IsErrAnd}
use Rattle.bits.specs.Bits.{Bits, from, end}
use Rattle.bits.specs.Codec.{Got, got, stop, and_then, f, flag, absent, choose, ◌▷◌, nil}
use Rattle.bits.specs.Codes.{unary, leb128, leb_step, leb_in, leb_out, too_long}
use Rattle.bits.specs.Answers.{found, Moved}
use Rattle.bits.specs.declared.answer.Refusal.{Refusal}
use Rattle.bits.specs.declared.answer.Refusal.TheVariants.{Inconsistent, Size}
use Rattle.bits.proofs.Laws.{stop-got, got-value, got-rest}
use Rattle.bits.proofs.Bounds.{f_small}
use Rattle.reader.specs.declared.BitReader.{BitReader}
use Rattle.reader.specs.Reading.{Said, said, completes}
use Rattle.reader.proofs.Reading.{reads, exit, on, halt, yes, no, nothing, one_of, Left, left_all, left_remade}

-- uvlc's zeros

flag_inv : (bs : Bits) (b : Bool) (rest : Bits) → flag.dec bs ≡ got b rest → bs ≡ b ∷ rest
unfolding flag
flag_inv [] b rest e = absurd (stop-got e)
flag_inv (x ∷ bs) b rest e = rw (got-value e, got-rest e)

-- what was found, with k zeros before it
abbrev after : ℕ → Got ℕ → Got ℕ
after k x = and_then x (λ z rest. got (k + z) rest)

after_none : (x : Got ℕ) → x ≡ after 0 x
after_none (got z rest) = ap (λ (n : ℕ). got n rest) (omega arith)
after_none (stop r) = refl

after_more : (k : ℕ) (x : Got ℕ) → after k (after 1 x) ≡ after (k + 1) x
after_more k (got z rest) = ap (λ (n : ℕ). got n rest) (omega arith)
after_more k (stop r) = refl

after_one : (x : Got ℕ) → and_then x (λ z rest. got (suc z) rest) ≡ after 1 x
after_one (got z rest) = ap (λ (n : ℕ). got n rest) (omega arith)
after_one (stop r) = refl

-- what is left where m bits more may be looked at
unfoldable pub unary_left : ℕ → ℕ → ℕ → Bits → Got ℕ
unary_left zero e i bs = stop (Inconsistent e i)
unary_left (suc m) e i bs = unary m e i bs

unary_next : (m e i : ℕ) (bs : Bits) → unary m e i (false ∷ bs) ≡ after 1 (unary_left m e i bs)
unfolding unary unary_left
unary_next zero e i bs = refl
unary_next (suc m) e i bs = after_one (unary m e i bs)

flag-stop : (m e i : ℕ) (bs : Bits) (y : Refusal) → flag.dec bs ≡ stop y → unary m e i bs ≡ stop y
unfolding flag unary
flag-stop m e i [] y h = ap (λ (g : Got Bool). and_then g (λ _ r. got 0 r)) h
flag-stop m e i (b ∷ bs) y h = absurd (stop-got (sym h))

-- k zeros have been counted, and 31 - k more may come
pub record Counted (e i : ℕ) (old : BitReader) (k : ℕ) (p : BitReader) : Type 0 where
  pub left : unary 31 e i (from old.bytes.now old.at) ≡ after k (unary_left (32 - k) e i (from old.bytes.now p.at))
  pub here : max p.at (end old.bytes.now) ≡ max old.at (end old.bytes.now)
  pub same : p.bytes ≡ old.bytes
  pub most : k ≤ 32

pub counted_none : {e i : ℕ} {old : BitReader} → Counted e i old 0 old
unfolding unary_left
counted_none {e} {i} {old} = record { left = after_none (unary 31 e i (from old.bytes.now old.at)); here = refl; same = refl; most = omega arith }

module _ {e i : ℕ} {old p : BitReader} {k : ℕ} (n : Counted e i old k p) where
  pub counted_full : 32 ≤ k → Said (unary 31 e i) old p (Err (Inconsistent e i))
  unfolding unary_left found Moved
  counted_full l = let z : 32 - k ≡ 0 = omega arith in said n.same (record { finds = n.left ∙ rw z; moves = nil })

  one_more : k < 32 → 32 - k ≡ suc (31 - k)
  one_more l = omega arith

  module _ {q : BitReader} (l : k < 32) where
    pub counted_stop : {y : Refusal} {r : Result ℕ Refusal} → Said flag.dec p q (Err y) → IsErrAnd r (λ z. z ≡ y) → Said (unary 31 e i) old q r
    unfolding unary_left found Moved
    counted_stop {y} (said b s) x =
        let h : flag.dec (from old.bytes.now p.at) ≡ stop y = rw n.same at s.finds in
        rw (exit x) (said (b ∙ n.same) (record { finds = n.left ∙ rw (one_more l, flag-stop (31 - k) e i _ y h); moves = nil }))

    pub counted-end : {b : Bool} → Said flag.dec p q (Ok b) → b ≡ true → Said (unary 31 e i) old (record { bytes = q.bytes; at = p.at }) (Ok k)
    unfolding unary unary_left found Moved
    counted-end {b} (said d s) t =
        let w : from old.bytes.now p.at ≡ b ∷ from old.bytes.now q.at = rw n.same at (flag_inv _ _ _ s.finds) in
        let z : k + 0 ≡ k = omega arith in
        let o : true ∷ from old.bytes.now q.at ≡ from old.bytes.now p.at = sym (rw t at w) in
        said (d ∙ n.same) (record { finds = n.left ∙ rw (one_more l, ← o, z); moves = n.here })

    pub counted_on : {b : Bool} → Said flag.dec p q (Ok b) → b ≡ false → Counted e i old (k + 1) q
    unfolding unary_left found Moved
    counted_on {b} (said d s) t =
        let w : from old.bytes.now p.at ≡ b ∷ from old.bytes.now q.at = rw n.same at (flag_inv _ _ _ s.finds) in
        let z : 31 - k ≡ 32 - (k + 1) = omega arith in
        record {
          left = n.left ∙ rw (one_more l, w, t, unary_next, z) (after_more k (unary_left (32 - (k + 1)) e i (from old.bytes.now q.at)));
          here = rw n.same at s.moves ∙ n.here;
          same = d ∙ n.same;
          most = omega arith;
        }

pub ruleset counts = (counted_none, counted_full, counted_stop, counted-end, counted_on)

-- leb128's bytes

grown : (low unit g v : ℕ) → low + unit * (g + v * 128) ≡ low + g * unit + unit * 128 * v
grown low unit g v = rw (mul_comm v 128, mul-add, mul_comm unit g, ← mul_assoc) (rw add_assoc)

-- k bytes went on: they make low, and those that follow count by the unit
pub record Sized (old : BitReader) (k : ℕ) (p : BitReader) (unit low : ℕ) : Type 0 where
  pub left : Left (leb128 8).dec old (leb128 (8 - k)) p (λ v. low + unit * v)
  pub most : k ≤ 8
  pub power : unit ≡ 2 ^ (7 * k)
  pub below : low < unit

pub sized_none : {old : BitReader} → Sized old 0 old 1 0
sized_none = record { left = left_remade (λ v. sym (rw (zero-add, one-mul))) (left_all (leb128 8)); most = omega arith; power = refl; below = omega arith }

module _ {old p : BitReader} {k unit low : ℕ} (n : Sized old k p unit low) where
  pub sized_full : 8 ≤ k → Said (leb128 8).dec old p (Err Size)
  unfolding leb128 too_long found Moved
  sized_full h = let z : 8 - k ≡ 0 = omega arith in let w : Left (leb128 8).dec old (leb128 0) p (λ v. low + unit * v) = rw z at n.left in w.rest _ (completes (said refl (record { finds = refl; moves = nil })))

  module _ (more : k < 8) where
    unit_small : unit ≤ 2 ^ 49
    unit_small = rw n.power (pow_mono {j = 49} (omega arith))

    -- one byte more stays below the next byte's unit
    under : (b : ℕ) → low + b % 128 * unit < unit * 128
    under b = omega (arith, n.below, mul-le-mul_right {m = b % 128} {n = 127} unit (omega arith))

    pub low_times : (b : ℕ) → b % 128 * unit < 2 ^ 64
    low_times b = omega (arith, under b, unit_small)

    pub low_more : (b : ℕ) → low + b % 128 * unit < 2 ^ 64
    low_more b = omega (arith, under b, unit_small)

    pub unit_times : unit * 128 < 2 ^ 64
    unit_times = omega (arith, unit_small)

    opened : Left (leb128 8).dec old (f 8 0 0 ▷ λ b. choose (ltb b 128) (absent 0) (leb128 (8 - (k + 1)))) p (λ a. low + unit * leb_in a)
    unfolding leb128 leb_step
    opened =
        let z : 8 - k ≡ suc (8 - (k + 1)) = omega arith in
        let w : Left (leb128 8).dec old (leb128 (suc (8 - (k + 1)))) p (λ v. low + unit * v) = rw z at n.left in
        record { rest = λ r s. w.rest r (one_of leb_out leb_in (leb_step (leb128 (8 - (k + 1)))) s) }

    module _ {q : BitReader} where
      pub sized_stop : {y : Refusal} {r : Result ℕ Refusal} → Said (f 8 0 0).dec p q (Err y) → IsErrAnd r (λ z. z ≡ y) → Said (leb128 8).dec old q r
      sized_stop s x = opened.rest _ (halt (f 8 0 0) _ s x)

      module _ {b : ℕ} (s : Said (f 8 0 0).dec p q (Ok b)) where
        pub sized_last : b < 128 → Said (leb128 8).dec old q (Ok (low + b % 128 * unit))
        sized_last l =
            let t = lt-ltb b 128 l in
            let e : low + b % 128 * unit ≡ low + unit * leb_in (b, 0) = rw (t, mul_comm (b % 128) unit) (ap (λ (x : ℕ). low + unit * x) (omega arith)) in
            opened.rest _ (on (f 8 0 0) _ s (yes (ltb b 128) _ _ t (nothing 0 e)))

        goes : 128 ≤ b → Left (leb128 8).dec old (leb128 (8 - (k + 1))) q (λ v. low + b % 128 * unit + unit * 128 * v)
        goes l =
            let t = le-ltb b 128 l in
            let v : b - 128 ≡ b % 128 = omega (arith, f_small 8 0 0 (reads s)) in
            left_remade (λ x. rw (t, v) (grown low unit (b % 128) x)) (record { rest = λ r m. opened.rest r (on (f 8 0 0) _ s (no (ltb b 128) _ _ t m)) })

        pub sized_on : 128 ≤ b → Sized old (k + 1) q (unit * 128) (low + b % 128 * unit)
        sized_on l =
            let z : 7 * (k + 1) ≡ 7 * k + 7 = omega arith in
            record { left = goes l; most = omega arith; power = rw (n.power, z, pow-add) refl; below = under b }

pub ruleset sizes = (sized_none, sized_full, low_times, low_more, unit_times, sized_stop, sized_last, sized_on)
