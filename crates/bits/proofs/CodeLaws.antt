-- uvlc, su(n) and leb128 keep the laws.
use mathlib.Core.Path.{◌≡◌, refl, sym, ◌∙◌, ap, subst}
use mathlib.Core.List.{[], ◌∷◌, ◌++◌, append_assoc}
use mathlib.Core.Bool.{Bool, true, false, cond}
use Prim.Native.Nat.{ℕ, zero, suc, ◌+◌, ◌-◌, ◌*◌, ◌^◌, ◌/◌, ◌%◌, ◌<◌, ◌≤◌}
use native.Mathlib.Omega.{arith}
use lib.ListN.{length, length-append, replicate}
use lib.Dec.{ltb, leb, lit<}
use native.Mathlib.Nat.{div-lt_iff_lt-mul, div-eq_of_lt-le, pow-suc, zero-div}
use native.Mathlib.Numerals.{add-one}
use lib.Count.{leading_top}
use lib.Pow.{pow_pos, pow_mono}
use lib.IntN.{ℤ, pos, negsuc}
use borrow.Author.Tests.{lt-ltb, le-ltb, le-leb, ltb-true, leb-true, ltb-false}
use Rattle.bits.specs.Bits.{Bits, bit_at, to_bits, from_bits}
use Rattle.bits.specs.Widths.{width_up_to, bit_length, signed_length}
use Rattle.bits.specs.Walk.{unsigned, ◌⊕◌, wrote, join, run}
use Rattle.bits.specs.Codec.{Codec, got, and_then, take_bits, f, absent, choose, ◌▷◌, merged}
use Rattle.bits.specs.Codes.{unary, uvlc, su_out, su_in, su, leb_out, leb_in, too_long, leb_step, leb128}
use Rattle.bits.proofs.Numbers.{length-to_bits}
use Rattle.bits.specs.Lawful.{Grade, strict, Wants, Lawful, Least, shorter}
use Rattle.bits.specs.declared.answer.Refusal.TheVariants.{Unfit}
use Rattle.bits.proofs.Laws.{wrote-bits, refused-wrote, stop-got, got-value, got-rest, then_inv, joined, join_inv, glue, passed, join-none, spells-coded, seq_law, choose_law, merged_law}
use Rattle.bits.proofs.Widths.{bit_is, up_to_is}
use Rattle.bits.proofs.Leaves.{take_inv, field_as_law, f_law, single_law, f_fits, f-length, f-enc, absent_law}

-- uvlc's zeros are those in front of a one, which stays
zeros-front : (m e i z : ℕ) (rest : Bits) → z ≤ m → unary m e i (replicate z false ++ true ∷ rest) ≡ got z (true ∷ rest)
unfolding unary
zeros-front m e i zero rest h = refl
zeros-front zero e i (suc z) rest h = absurd (omega arith)
zeros-front (suc m) e i (suc z) rest h = rw (zeros-front m e i z rest (omega arith))

pub zeros_inv : (m e i : ℕ) (bs : Bits) (z : ℕ) (rest : Bits) → unary m e i bs ≡ got z rest → (z ≤ m) × (replicate z false ++ rest ≡ bs) × (tail : Bits) × (true ∷ tail ≡ rest)
unfolding unary
zeros_inv m e i [] z rest h = absurd (stop-got h)
zeros_inv m e i (true ∷ bs) z rest h = rw (← (got-value h)) (omega arith, sym (got-rest h), bs, got-rest h)
zeros_inv zero e i (false ∷ bs) z rest h = absurd (stop-got h)
zeros_inv (suc m) e i (false ∷ bs) z rest h =
    let u = then_inv (unary m e i bs) (λ z rest. got (suc z) rest) z rest h in
    let t = zeros_inv m e i bs u.0 u.1 u.2 in
    step u.0 u.1 u.3 t.0 t.1 t.2 t.3
  where
    step : (y : ℕ) (r : Bits) → got (suc y) r ≡ got z rest → y ≤ m → replicate y false ++ r ≡ bs → (tail : Bits) → true ∷ tail ≡ r
        → (z ≤ suc m) × (replicate z false ++ rest ≡ false ∷ bs) × (tail : Bits) × (true ∷ tail ≡ rest)
    step y r g l a tail t = rw (← (got-value g), ← (got-rest g)) (omega arith, ap (λ (l : Bits). false ∷ l) a, tail, t)

pub no_bits : (z : ℕ) → to_bits z 0 ≡ replicate z false
unfolding to_bits bit_at
no_bits zero = refl
no_bits (suc z) = rw (zero-div (2 ^ z)) (ap (λ (bs : Bits). false ∷ bs) (no_bits z))

-- a number of z + 1 bits, and not fewer, begins with a one; and what begins with a one is no smaller number
one_front : (z w : ℕ) → 2 ^ z ≤ w → w < 2 ^ suc z → to_bits (suc z) w ≡ true ∷ to_bits z w
unfolding to_bits bit_at
one_front z w l u = rw (div-eq_of_lt-le {k = 1} (2 ^ z) {m = w} (omega arith) (omega arith))

pub one_inv : (z e i : ℕ) (tail bs : Bits) (w : ℕ) (rest : Bits) → true ∷ tail ≡ bs → (f (z + 1) e i).dec bs ≡ got w rest → 2 ^ z ≤ w
unfolding f from_bits
one_inv z e i tail bs w rest o h =
    let u = then_inv (take_bits (z + 1) bs) (λ xs rest. got (from_bits xs) rest) w rest h in
    let t = take_inv (z + 1) bs u.0 u.1 u.2 in
    go u.0 u.1 t.0 t.1 (got-value u.3)
  where
    go : (xs r : Bits) → length xs ≡ z + 1 → xs ++ r ≡ bs → from_bits xs ≡ w → 2 ^ z ≤ w
    go [] r l a q = absurd (omega arith)
    go (b ∷ xs) r l a q =
        let k : length xs ≡ z = omega arith in
        let t : b ≡ true = cc in
        omega (arith, rw (t, k) at q)

f_reads_own : (n e i v : ℕ) (rest : Bits) → v < 2 ^ n → (f n e i).dec (to_bits n v ++ rest) ≡ got v rest
unfolding f
f_reads_own n e i v rest h = (f_law {g = strict} n e i).complete v (to_bits n v) rest (f-enc n e i v h)

-- Document 01's rule where v + 1 has z + 1 bits, and not fewer: z zeros, and v + 1 in z + 1 bits.
module _ (e i z v : ℕ) (few : z ≤ 31) (lo : 2 ^ z ≤ v + 1) (hi : v + 1 < 2 ^ suc z) where
  pub uvlc_writes : run ((uvlc e i).enc v) ≡ wrote (replicate z false ++ to_bits (suc z) (v + 1))
  unfolding uvlc run join
  uvlc_writes =
      let p : 2 ^ suc z ≤ 2 ^ 32 = pow_mono {j = 32} (omega arith) in
      let t : width_up_to 32 (v + 1) ≡ suc z = up_to_is 32 (v + 1) (omega arith) ∙ bit_is (v + 1) z lo hi in
      let k : suc z - 1 ≡ z = omega arith in
      rw (t, k, lt-ltb v (2 ^ 32 - 1) (omega arith), lt-ltb 0 (2 ^ z) (pow_pos z), no_bits z, lt-ltb (v + 1) (2 ^ suc z) hi)

  pub uvlc_reads : (rest : Bits) → (uvlc e i).dec ((replicate z false ++ to_bits (suc z) (v + 1)) ++ rest) ≡ got v rest
  unfolding uvlc
  uvlc_reads rest =
      let b = one_front z (v + 1) lo hi in
      let n : v + 1 - 1 ≡ v = omega arith in
      rw (append_assoc, b, zeros-front 31 e i z (to_bits z (v + 1) ++ rest) few, add-one z, rw b at (f_reads_own (suc z) e i (v + 1) rest hi), n)

uvlc_complete : (e i v : ℕ) (bs rest : Bits) → run ((uvlc e i).enc v) ≡ wrote bs → (uvlc e i).dec (bs ++ rest) ≡ got v rest
unfolding uvlc run
uvlc_complete e i v bs rest h =
    let t = ltb-true v (2 ^ 32 - 1) (passed (ltb v (2 ^ 32 - 1)) (Unfit e i (bit_length (v + 1))) h).0 in
    let j = leading_top 32 (v + 1) (omega arith) (omega arith) in
    let few : j.0 ≤ 31 = omega (arith, j.1) in
    rw (wrote-bits (sym h ∙ uvlc_writes e i j.0 v few j.2 j.3)) (uvlc_reads e i j.0 v few j.2 j.3 rest)

uvlc_sound : (e i : ℕ) (bs : Bits) (v : ℕ) (rest : Bits) → (uvlc e i).dec bs ≡ got v rest → (front : Bits) × (run ((uvlc e i).enc v) ≡ wrote front) × (front ++ rest ≡ bs)
unfolding uvlc f
uvlc_sound e i bs v rest h =
    let u = then_inv (unary 31 e i bs) (λ z rest. and_then ((f (z + 1) e i).dec rest) (λ w end. got (w - 1) end)) v rest h in
    let x = then_inv ((f (u.0 + 1) e i).dec u.1) (λ w end. got (w - 1) end) v rest u.3 in
    let t = zeros_inv 31 e i bs u.0 u.1 u.2 in
    let s = (f_law {g = strict} (u.0 + 1) e i).sound u.1 x.0 x.1 x.2 in
    let lo = one_inv u.0 e i t.2 u.1 x.0 x.1 t.3 x.2 in
    go u.0 x.0 s.0 t.0 lo s.1 (got-value x.3) t.1 s.2 (got-rest x.3)
  where
    go : (z w : ℕ) (y : Bits) {r end : Bits} → z ≤ 31 → 2 ^ z ≤ w → (f (z + 1) e i).spells w y → w - 1 ≡ v → replicate z false ++ r ≡ bs → y ++ end ≡ r → end ≡ rest
        → (front : Bits) × (run ((uvlc e i).enc v) ≡ wrote front) × (front ++ rest ≡ bs)
    go z w y few lo s less a b c =
        let p = pow_pos z in
        let q : w ≡ v + 1 = omega arith in
        let fits = f_fits (z + 1) e i w y s in
        let hi : w < 2 ^ suc z = rw (add-one z) at fits in
        let n : to_bits (suc z) (v + 1) ≡ y = rw (add-one z, q) at (wrote-bits (sym (f-enc (z + 1) e i w fits) ∙ s)) in
        (replicate z false ++ y, rw n at (uvlc_writes e i z v few (rw q at lo) (rw q at hi)), glue (replicate z false) y a b c)

pub uvlc_law : {g : Grade} (e i : ℕ) → Lawful g (uvlc e i)
unfolding uvlc
uvlc_law e i = single_law _ _ (uvlc_complete e i) (uvlc_sound e i)

su-back : (n v : ℕ) → v < 2 ^ n → su_out n (su_in n v) ≡ v
su-back n v h = go (ltb (v * 2) (2 ^ n)) refl
  where
    go : (b : Bool) → ltb (v * 2) (2 ^ n) ≡ b → su_out n (cond b (pos v) (negsuc (2 ^ n - suc v))) ≡ v
    go true e = rw e
    go false e =
        let l = ltb-false (v * 2) (2 ^ n) e in
        rw (le-leb (suc (2 ^ n - suc v) * 2) (2 ^ n) (omega arith)) (omega arith)

su_there : (n : ℕ) (z : ℤ) → su_out n z < 2 ^ n → su_in n (su_out n z) ≡ z
su_there n (pos m) h = go (ltb (m * 2) (2 ^ n)) refl h
  where
    go : (b : Bool) → ltb (m * 2) (2 ^ n) ≡ b → cond b m (2 ^ n) < 2 ^ n → su_in n (cond b m (2 ^ n)) ≡ pos m
    go true e h = rw e
    go false e h = absurd (omega arith)
su_there n (negsuc m) h = go (leb (suc m * 2) (2 ^ n)) refl h
  where
    go : (b : Bool) → leb (suc m * 2) (2 ^ n) ≡ b → cond b (2 ^ n - suc m) (2 ^ n) < 2 ^ n → su_in n (cond b (2 ^ n - suc m) (2 ^ n)) ≡ negsuc m
    go true e h =
        let l = leb-true (suc m * 2) (2 ^ n) e in
        let d : 2 ^ n - suc (2 ^ n - suc m) ≡ m = omega arith in
        rw (le-ltb ((2 ^ n - suc m) * 2) (2 ^ n) (omega arith), d)
    go false e h = absurd (omega arith)

pub su_law : {g : Grade} (n e i : ℕ) → Lawful g (su n e i)
unfolding su
su_law n e i = field_as_law n (su_out n) (su_in n) (λ z. Unfit e i (signed_length z)) (su-back n) (su_there n)

pub too_long_law : {g : Grade} → Lawful g too_long
unfolding too_long run
too_long_law = record {
  own = λ n bs h. refused-wrote h;
  complete = λ n bs rest s. absurd s;
  sound = λ bs n rest h. absurd (stop-got h);
  idem = λ n. refl;
  blind = λ n. refl;
  least = λ w n bs s. absurd s;
}

pub step_law : {g : Grade} (c : Codec ℕ) → Lawful g c → Lawful g (leb_step c)
unfolding leb_step
step_law c C = seq_law (f_law 8 0 0) λ b. choose_law (ltb b 128) (absent_law 0) C

leb-whole : (n : ℕ) → leb_in (leb_out n) ≡ n
leb-whole n = go (ltb n 128) refl
  where
    go : (b : Bool) → ltb n 128 ≡ b → leb_in (cond b (n, 0) (128 + n % 128, n / 128)) ≡ n
    go true e = rw e
    go false e = rw (le-ltb (128 + n % 128) 128 (omega arith)) (omega arith)

pub leb_id : (k n : ℕ) → (leb128 k).coded n ≡ n
unfolding leb128 too_long merged
leb_id zero n = refl
leb_id (suc k) n = refl

-- what a byte and a rest code stands for the same number
leb-coded : (k : ℕ) (p : ℕ × ℕ) → leb_in ((leb_step (leb128 k)).coded p) ≡ leb_in p
unfolding leb_step ◌▷◌ choose f absent
leb-coded k p = go (ltb p.0 128) refl
  where
    go : (b : Bool) → ltb p.0 128 ≡ b → leb_in (p.0, cond b 0 ((leb128 k).coded p.1)) ≡ leb_in p
    go true e = rw e
    go false e = rw (leb_id k p.1)

leb_long : (k n : ℕ) (bs : Bits) → (leb128 k).spells n bs → 8 ≤ length bs
unfolding leb128 leb_step ◌▷◌ too_long merged
leb_long zero n bs s = absurd s
leb_long (suc k) n bs s = go s.2.0 s.2.1 (f-length 8 0 0 s.0.0 s.2.0 s.2.2) s.2.4
  where
    go : (x y : Bits) → length x ≡ 8 → x ++ y ≡ bs → 8 ≤ length bs
    go x y l e = rw (← e, length-append) (omega arith)

-- the bytes that go on are the ones that are written, if the number needs them
leb_out_eq : (b m n : ℕ) → b - 128 + m * 128 ≡ n → 128 ≤ b → b < 256 → 128 ≤ n → leb_out n ≡ (b, m)
leb_out_eq b m n e l u h =
    let d : n / 128 ≡ m = omega arith in
    let r : 128 + n % 128 ≡ b = omega arith in
    rw (le-ltb n 128 h, d, r)

leb_short : (k n : ℕ) → n < 128 → run ((leb_step (leb128 k)).enc (n, 0)) ≡ wrote (to_bits 8 n)
unfolding leb_step ◌▷◌ choose absent f run
leb_short k n h = rw (lt-ltb n 128 h) (join-none (f-enc 8 0 0 n (omega arith)))

leb_out_short : (n : ℕ) → n < 128 → leb_out n ≡ (n, 0)
leb_out_short n h = rw (lt-ltb n 128 h)

leb-least : {g : Grade} → Wants g → (k n : ℕ) (C : Lawful g (leb128 k)) (p : ℕ × ℕ) (bs : Bits) → leb_in p ≡ n → (leb_step (leb128 k)).spells p bs → (es : Bits) × (run ((leb_step (leb128 k)).enc (leb_out n)) ≡ wrote es) × Least es bs
unfolding leb_step ◌▷◌ choose f absent
leb-least {g} w k n C p bs e s = go (ltb p.0 128) refl (ltb n 128) refl s.3
  where
    S : Lawful g (leb_step (leb128 k))
    S = step_law (leb128 k) C

    -- the pair that is written is the pair that was read
    as_read : (q : ℕ × ℕ) → leb_out n ≡ q → (leb_step (leb128 k)).spells q bs → (es : Bits) × (run ((leb_step (leb128 k)).enc (leb_out n)) ≡ wrote es) × Least es bs
    as_read q h t = subst (λ (r : ℕ × ℕ). (es : Bits) × (run ((leb_step (leb128 k)).enc r) ≡ wrote es) × Least es bs) (sym h) (S.least w q bs t)

    two : (x y : Bits) → length x ≡ 8 → 8 ≤ length y → x ++ y ≡ bs → length (to_bits 8 n) + 8 ≤ length bs
    two x y l m q = rw (← q, length-append, length-to_bits 8 n) (omega arith)

    go : (b : Bool) → ltb p.0 128 ≡ b → (d : Bool) → ltb n 128 ≡ d → cond b (wrote [] ≡ wrote s.1) ((leb128 k).spells p.1 s.1) → (es : Bits) × (run ((leb_step (leb128 k)).enc (leb_out n)) ≡ wrote es) × Least es bs
    go true h d g t =
        let m : leb_in p ≡ p.0 = rw h in
        let lt = ltb-true p.0 128 h in
        let o : leb_out n ≡ (leb_step (leb128 k)).coded p = rw (← e, m, h) in
        as_read ((leb_step (leb128 k)).coded p) o (spells-coded S p bs s)
    go false h true g t =
        let lt = ltb-true n 128 g in
        (to_bits 8 n, rw (leb_out_short n lt) (leb_short k n lt), shorter (two s.0 s.1 (f-length 8 0 0 p.0 s.0 s.2) (leb_long k p.1 s.1 t) s.4))
    go false h false g t =
        let m : leb_in p ≡ p.0 - 128 + p.1 * 128 = rw h in
        as_read p (leb_out_eq p.0 p.1 n (sym m ∙ e) (ltb-false p.0 128 h) (f_fits 8 0 0 p.0 s.0 s.2) (ltb-false n 128 g)) s

pub leb_law : {g : Grade} (k : ℕ) → Lawful g (leb128 k)
unfolding leb128
leb_law {g} zero = too_long_law
leb_law {g} (suc k) =
    let C = leb_law {g = g} k in
    merged_law leb_out leb_in (step_law (leb128 k) C) leb-whole (leb-coded k) (λ w n p bs e s. leb-least w k n C p bs e s)

-- a number of more than seven bits goes on
leb_goes : (k n : ℕ) → 128 ≤ n → run ((leb_step (leb128 k)).enc (leb_out n)) ≡ join (wrote (to_bits 8 (128 + n % 128))) (run ((leb128 k).enc (n / 128)))
unfolding leb_step ◌▷◌ choose f absent run
leb_goes k n h =
    let u : 128 + n % 128 < 256 = omega arith in
    let l : 128 ≤ 128 + n % 128 = omega arith in
    rw (le-ltb n 128 h, lt-ltb (128 + n % 128) 256 u, le-ltb (128 + n % 128) 128 l)

-- a smaller number takes no more bytes
pub leb_mono : (k a b : ℕ) (y : Bits) → a ≤ b → run ((leb128 k).enc b) ≡ wrote y → (x : Bits) × (run ((leb128 k).enc a) ≡ wrote x) × (length x ≤ length y)
unfolding leb128 too_long merged run
leb_mono zero a b y h e = absurd (refused-wrote e)
leb_mono (suc k) a b y h e = go (ltb a 128) refl (λ z q. leb_mono k (a / 128) (b / 128) z (omega arith) q)
  where
    go : (t : Bool) → ltb a 128 ≡ t → ((z : Bits) → run ((leb128 k).enc (b / 128)) ≡ wrote z → (x : Bits) × (run ((leb128 k).enc (a / 128)) ≡ wrote x) × (length x ≤ length z))
        → (x : Bits) × (run ((leb_step (leb128 k)).enc (leb_out a)) ≡ wrote x) × (length x ≤ length y)
    go true g ih =
        let lt = ltb-true a 128 g in
        (to_bits 8 a, rw (leb_out_short a lt) (leb_short k a lt), rw (length-to_bits 8 a) (leb_long (suc k) b y ((leb_law {g = strict} (suc k)).own b y e)))
    go false g ih =
        let l = ltb-false a 128 g in
        let j = join_inv (wrote (to_bits 8 (128 + b % 128))) (run ((leb128 k).enc (b / 128))) y (sym (leb_goes k b (omega arith)) ∙ e) in
        let r = ih j.1 j.3 in (
          to_bits 8 (128 + a % 128) ++ r.0,
          leb_goes k a l ∙ joined refl r.1,
          rw (length-append, length-to_bits 8 (128 + a % 128)) (more j.0 j.1 r.0 (ap length (sym (wrote-bits j.2)) ∙ length-to_bits 8 (128 + b % 128)) j.4 r.2),
        )
      where
        more : (p q r : Bits) → length p ≡ 8 → p ++ q ≡ y → length r ≤ length q → 8 + length r ≤ length y
        more p q r l e h = rw (← e, length-append, l) (omega arith)

-- a size takes whole bytes
pub leb-length : (k n : ℕ) (bs : Bits) → (leb128 k).spells n bs → (j : ℕ) × (length bs ≡ j * 8)
unfolding leb128 leb_step ◌▷◌ too_long choose f absent merged
leb-length zero n bs s = absurd s
leb-length (suc k) n bs s = go (ltb s.0.0 128) s.2.0 s.2.1 (f-length 8 0 0 s.0.0 s.2.0 s.2.2) s.2.4 (λ y t. leb-length k s.0.1 y t) s.2.3
  where
    more : (x y : Bits) (j : ℕ) → length x ≡ 8 → x ++ y ≡ bs → length y ≡ j * 8 → length bs ≡ suc j * 8
    more x y j l e h = rw (← e, length-append) (omega arith)

    go : (b : Bool) (x y : Bits) → length x ≡ 8 → x ++ y ≡ bs → ((y : Bits) → (leb128 k).spells s.0.1 y → (j : ℕ) × (length y ≡ j * 8))
        → cond b (wrote [] ≡ wrote y) ((leb128 k).spells s.0.1 y) → (j : ℕ) × (length bs ≡ j * 8)
    go true x y l e ih t = (1, more x y 0 l e (ap length (sym (wrote-bits t))))
    go false x y l e ih t = let r = ih y t in (suc r.0, more x y r.0 l e r.1)

-- a number below 128^k is written in k bytes
pub leb-total : (k n : ℕ) → n < 128 ^ k → 0 < k → (y : Bits) × (run ((leb128 k).enc n) ≡ wrote y)
unfolding leb128 merged
leb-total zero n h p = absurd (omega arith)
leb-total (suc k) n h p = go (ltb n 128) refl (ltb 0 k) refl (leb-total k (n / 128))
  where
    go : (b : Bool) → ltb n 128 ≡ b → (d : Bool) → ltb 0 k ≡ d → (n / 128 < 128 ^ k → 0 < k → (y : Bits) × (run ((leb128 k).enc (n / 128)) ≡ wrote y)) → (y : Bits) × (run ((leb_step (leb128 k)).enc (leb_out n)) ≡ wrote y)
    go true e d z ih = let l = ltb-true n 128 e in (to_bits 8 n, rw (leb_out_short n l) (leb_short k n l))
    go false e true z ih =
        let l = ltb-false n 128 e in
        let r = ih ((div-lt_iff_lt-mul (lit< tt)).1 (rw (pow-suc 128 k) at h)) (ltb-true 0 k z) in
        (to_bits 8 (128 + n % 128) ++ r.0, leb_goes k n l ∙ joined refl r.1)
    go false e false z ih =
        let l = ltb-false n 128 e in
        let q = ltb-false 0 k z in
        let o : k ≡ 0 = omega arith in
        let b : n < 128 ^ suc 0 = rw o at h in
        absurd (omega arith)

-- The bytes of leb128, as its loop writes them.
pub leb_more : (k n m : ℕ) → 128 ≤ n → n < 128 ^ k → n / 128 ≡ m → (0 < k - 1) × (m < 128 ^ (k - 1)) × (run (unsigned 8 (128 + n % 128) 0 0 ⊕ (leb128 (k - 1)).enc m) ≡ run ((leb128 k).enc n))
unfolding leb128 merged leb_step ◌▷◌ choose f absent run
leb_more zero n m l h e = absurd (omega arith)
leb_more (suc zero) n m l h e = absurd (omega arith)
leb_more (suc (suc k)) n m l h e =
    let j : suc (suc k) - 1 ≡ suc k = omega arith in
    let u : 128 + n % 128 < 256 = omega arith in
    let o : 128 ≤ 128 + n % 128 = omega arith in
    (omega arith, rw (← e, j) ((div-lt_iff_lt-mul (lit< tt)).1 (rw (pow-suc 128 (suc k)) at h)), rw (← e, j, le-ltb n 128 l, le-ltb (128 + n % 128) 128 o))

pub leb_last : (k n : ℕ) → n < 128 → n < 128 ^ k → 0 < k → run (unsigned 8 n 0 0) ≡ run ((leb128 k).enc n)
unfolding leb128 merged f run
leb_last zero n l h p = absurd (omega arith)
leb_last (suc k) n l h p = f-enc 8 0 0 n (omega arith) ∙ sym (rw (leb_out_short n l) (leb_short k n l))
