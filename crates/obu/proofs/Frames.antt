-- The size and the trailing bits: what is read of them was spelled so, what framing a payload writes, and that the shortest payload is framed shortest.
use mathlib.Core.Path.{◌≡◌, refl, sym, ◌∙◌, ap}
use mathlib.Core.List.{[], ◌∷◌, ◌++◌}
use mathlib.Core.Bool.{Bool, true, false, cond}
use Prim.Native.Nat.{ℕ, zero, suc, ◌+◌, ◌*◌, ◌^◌, ◌≤◌}
use native.Mathlib.Omega.{arith}
use lib.ListN.{length, length-append, replicate, length-replicate}
use lib.Dec.{eqb, ltb}
use lib.Pow.{pow_pos}
use borrow.Author.Tests.{eq-eqb, eqb-true, ltb-true, ltb-false, lt-ltb}
use Rattle.bits.specs.Bits.{Bits}
use Rattle.bits.specs.Walk.{Walk, End, done, refused, Out, wrote, join, run}
use Rattle.bits.specs.Codec.{got, stop, nil}
use Rattle.bits.specs.Codes.{leb128}
use Rattle.bits.specs.Lawful.{strict, Least, same, shorter}
use Rattle.bits.specs.declared.answer.Refusal.TheVariants.{Size}
use Rattle.bits.proofs.Laws.{wrote-bits, refused-wrote, stop-got, got-rest, then_inv, cond_inv, join_inv}
use Rattle.bits.proofs.CodeLaws.{leb_law, leb_id, leb_mono, leb-length, no_bits}
use Rattle.obu.specs.Framing.{obu_size, read_size, bytes_for, padding, trailing_bits, all_zero, is_trailing, read_trailing, admitted, framed}

false-true : false ≡ true → ⊥
false-true h = let z : ◌≡◌ {A = ℕ} 0 1 = cc in omega arith

-- The trailing bits read
zero-run : (k : ℕ) → all_zero (replicate k false) ≡ true
unfolding all_zero
zero-run zero = refl
zero-run (suc k) = zero-run k

zero_inv : (bs : Bits) → all_zero bs ≡ true → replicate (length bs) false ≡ bs
unfolding all_zero
zero_inv [] h = refl
zero_inv (true ∷ bs) h = absurd (false-true h)
zero_inv (false ∷ bs) h = ap (λ (r : Bits). false ∷ r) (zero_inv bs h)

pub tail_is : (k : ℕ) → read_trailing (true ∷ replicate k false) ≡ got nil []
unfolding read_trailing is_trailing
tail_is k = rw (zero-run k)

is_tail : (bs : Bits) → is_trailing bs ≡ true → (k : ℕ) × (true ∷ replicate k false ≡ bs)
unfolding is_trailing
is_tail [] h = absurd (false-true h)
is_tail (true ∷ bs) h = (length bs, ap (λ (r : Bits). true ∷ r) (zero_inv bs h))
is_tail (false ∷ bs) h = absurd (false-true h)

pub tail_inv : (bs : Bits) {rest : Bits} → read_trailing bs ≡ got nil rest → (k : ℕ) × (true ∷ replicate k false ≡ bs)
unfolding read_trailing
tail_inv bs h = is_tail bs (cond_inv (is_trailing bs) h stop-got).0

pub tail-end : (bs : Bits) {rest : Bits} → read_trailing bs ≡ got nil rest → rest ≡ []
unfolding read_trailing
tail-end bs h = sym (got-rest (cond_inv (is_trailing bs) h stop-got).1)

-- The size read
pub size_reads : (b : Bool) (n : ℕ) (size r : Bits) → cond b ((leb128 8).spells n size) (size ≡ []) → length r ≡ n * 8 → read_size b (size ++ r) ≡ got nil r
unfolding read_size
size_reads true n size r s l = rw ((leb_law {g = strict} 8).complete n size r s, leb_id 8 n, eq-eqb (n * 8) (length r) (sym l))
size_reads false n size r s l = rw s

pub size_inv : (b : Bool) (bs r : Bits) → read_size b bs ≡ got nil r → (n : ℕ) × (size : Bits) × (cond b (((leb128 8).spells n size) × (length r ≡ n * 8)) (size ≡ [])) × (size ++ r ≡ bs)
unfolding read_size
size_inv true bs r h =
    let u = then_inv ((leb128 8).dec bs) (λ n rest. cond (eqb (n * 8) (length rest)) (got nil rest) (stop Size)) nil r h in
    let c = cond_inv (eqb (u.0 * 8) (length u.1)) u.3 stop-got in
    let x = (leb_law {g = strict} 8).sound bs u.0 u.1 u.2 in
    go u.0 x.0 u.1 (got-rest c.1) x.1 (eqb-true (u.0 * 8) (length u.1) c.0) x.2
  where
    go : (n : ℕ) (size q : Bits) → q ≡ r → (leb128 8).spells n size → n * 8 ≡ length q → size ++ q ≡ bs → (n : ℕ) × (size : Bits) × (((leb128 8).spells n size) × (length r ≡ n * 8)) × (size ++ r ≡ bs)
    go n size q e s l w = (n, size, (s, ap length (sym e) ∙ sym l), ap (λ (y : Bits). size ++ y) (sym e) ∙ w)
size_inv false bs r h = (0, [], refl, sym (got-rest h))

pub size-length : (b : Bool) (n : ℕ) (size : Bits) → cond b ((leb128 8).spells n size) (size ≡ []) → (j : ℕ) × (length size ≡ j * 8)
size-length true n size s = leb-length 8 n size s
size-length false n size s = (0, ap length s)

-- What framing a payload writes
abbrev pub tail : ℕ → Bits
tail n = true ∷ replicate (padding n) false

abbrev pub size_out : Bool → ℕ → Out
size_out b n = cond b (run ((leb128 8).enc n)) (wrote [])

pub tail-run : (n : ℕ) → run (trailing_bits n) ≡ wrote (tail n)
unfolding run join trailing_bits
tail-run n = rw (lt-ltb 0 (2 ^ padding n) (pow_pos (padding n)), no_bits (padding n))

pub framed-run : (b : Bool) (w : Walk) (size bs : Bits) → run w ≡ wrote bs → size_out b (bytes_for (length bs)) ≡ wrote size → run (framed b w) ≡ wrote (size ++ (bs ++ tail (length bs)))
unfolding framed obu_size run join
framed-run b w size bs h s = rw (h, s, tail-run (length bs))

pub framed_inv : (b : Bool) (w : Walk) (y : Bits) → run (framed b w) ≡ wrote y
    → (body : Bits) × (size : Bits) × (run w ≡ wrote body) × (size_out b (bytes_for (length body)) ≡ wrote size) × (size ++ (body ++ tail (length body)) ≡ y)
unfolding framed obu_size run
framed_inv b w y h =
    let j = join_inv (run (admitted (run w).end)) _ y h in
    let k = join_inv (size_out b (bytes_for (length (run w).bits))) _ j.1 j.3 in
    let l = join_inv (run w) (run (trailing_bits (length (run w).bits))) k.1 k.3 in
    go j.0 j.1 k.0 k.1 l.0 l.1 (none (run w).end j.2) l.2 k.2 l.3 l.4 k.4 j.4
  where
    none : (e : End) {x : Bits} → run (admitted e) ≡ wrote x → x ≡ []
    none done h = sym (wrote-bits h)
    none (refused r) h = absurd (refused-wrote h)

    go : (x r size q body t : Bits) → x ≡ [] → run w ≡ wrote body → size_out b (bytes_for (length (run w).bits)) ≡ wrote size → run (trailing_bits (length (run w).bits)) ≡ wrote t
        → body ++ t ≡ q → size ++ q ≡ r → x ++ r ≡ y
        → (body : Bits) × (size : Bits) × (run w ≡ wrote body) × (size_out b (bytes_for (length body)) ≡ wrote size) × (size ++ (body ++ tail (length body)) ≡ y)
    go x r size q body t n B Z T d e f =
        let m : length (run w).bits ≡ length body = ap (λ (o : Out). length o.bits) B in
        let u : tail (length body) ≡ t = wrote-bits (sym (tail-run (length body)) ∙ rw m at T) in
        (body, size, B, rw m at Z, rw (u, d, e) (rw n at f))

pub size_own : (b : Bool) (n : ℕ) (size : Bits) → size_out b n ≡ wrote size → cond b ((leb128 8).spells n size) (size ≡ [])
size_own true n size h = (leb_law {g = strict} 8).own n size h
size_own false n size h = sym (wrote-bits h)

pub frame_length : (body : Bits) → length (body ++ tail (length body)) ≡ bytes_for (length body) * 8
frame_length body = rw (length-append, length-replicate) (omega arith)

-- Shortest
pub least_le : {x y : Bits} → Least x y → length x ≤ length y
least_le (same e) = omega (arith, ap length e)
least_le (shorter h) = omega arith

-- the shortest payload with its own tail is the one at hand, or saves a byte
pub data Fit (ez z : Bits) (pad bytes : ℕ) : Type 0 where
  exact : ez ++ tail (length ez) ≡ z ++ true ∷ replicate pad false → bytes_for (length ez) ≡ bytes → Fit ez z pad bytes
  room : suc (bytes_for (length ez)) ≤ bytes → Fit ez z pad bytes

pub fit : (ez z : Bits) (pad bytes : ℕ) → Least ez z → length (z ++ true ∷ replicate pad false) ≡ bytes * 8 → Fit ez z pad bytes
fit ez z pad bytes l h = go l (ltb (bytes_for (length ez)) bytes) refl (sym (length-append z (true ∷ replicate pad false)) ∙ h) (length-replicate pad false)
  where
    go : Least ez z → (b : Bool) → ltb (bytes_for (length ez)) bytes ≡ b → length z + suc (length (replicate pad false)) ≡ bytes * 8 → length (replicate pad false) ≡ pad → Fit ez z pad bytes
    go l true e h r = room (ltb-true (bytes_for (length ez)) bytes e)
    go (same q) false e h r =
        let f = ltb-false (bytes_for (length ez)) bytes e in
        let n = ap length q in
        let d : padding (length ez) ≡ pad = omega arith in
        exact (rw d (ap (λ (x : Bits). x ++ true ∷ replicate pad false) q)) (omega arith)
    go (shorter q) false e h r =
        let f = ltb-false (bytes_for (length ez)) bytes e in
        room (omega arith)

pub size-least : (b : Bool) (n N : ℕ) (size : Bits) → N ≤ n → cond b ((leb128 8).spells n size) (size ≡ []) → (y : Bits) × (size_out b N ≡ wrote y) × (length y ≤ length size)
size-least true n N size h s =
    let l = (leb_law {g = strict} 8).least tt n size s in
    let m = leb_mono 8 N n l.0 h l.1 in
    (m.0, m.1, omega (arith, m.2, least_le l.2))
size-least false n N size h s = ([], refl, omega arith)

pub size_same : (b : Bool) (n : ℕ) (size : Bits) → cond b ((leb128 8).spells n size) (size ≡ []) → (y : Bits) × (size_out b n ≡ wrote y) × Least y size
size_same true n size s = (leb_law {g = strict} 8).least tt n size s
size_same false n size s = ([], refl, same (sym s))

pub save : (ex x ey y ez w : Bits) (bytes : ℕ) → length ex ≤ length x → length ey ≤ length y → length w ≡ bytes * 8 → suc (bytes_for (length ez)) ≤ bytes
    → length (ex ++ (ey ++ (ez ++ tail (length ez)))) + 8 ≤ length (x ++ (y ++ w))
save ex x ey y ez w bytes X Y W r =
    rw (length-append x (y ++ w), length-append y w, length-append ex (ey ++ (ez ++ tail (length ez))), length-append ey (ez ++ tail (length ez)), frame_length ez) (omega arith)
