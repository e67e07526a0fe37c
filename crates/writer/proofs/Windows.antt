-- A field stored in eight bytes at once: the same as bit by bit.
use mathlib.Core.Path.{◌≡◌, refl, sym, ap, ◌∙◌}
use mathlib.Core.List.{List, [], ◌∷◌, ◌++◌, append_assoc}
use Prim.Native.Nat.{ℕ, suc, ◌+◌, ◌-◌, ◌*◌, ◌/◌, ◌%◌, ◌^◌, ◌≤◌, ◌<◌}
use native.Mathlib.Omega.{arith}
use native.Mathlib.Nat.{mod-lt}
use lib.Pow.{pow_pos}
use lib.ListN.{length, get_or, set, take, drop, length-set}
use lib.Seq.{take_at, drop_at, drop-drop, sets, sets-eq}
use borrow.Rule.Slice.PartMut.{put_mid}
use Rattle.std.specs.Int.{w64, to_be_bytes}
use Rattle.bits.specs.Bits.{Bits, to_bits, bits_of, put, from, end}
use Rattle.writer.specs.Blend.{blend}
use Rattle.bits.proofs.Numbers.{length-to_bits}
use Rattle.bits.proofs.Storing.{put_append}
use Rattle.bits.proofs.Places.{end_is, from-drop, put_same, put-behind}
use Rattle.writer.proofs.Bytes.{high_bytes, bits-of_bytes}
use Rattle.writer.proofs.Blending.{own, made_bits, blend-bits}
use Rattle.writer.proofs.Chunk.{put_byte, set_bytes}

-- where there is room for a window
pub window_room : (xs : List ℕ) (at : ℕ) → at / 8 + 8 ≤ length xs → at < 9223372036854775744 → at / 8 * 8 + 64 ≤ end xs
window_room xs at h l = omega (arith, end_is xs)

-- whole bytes stored
pub put_bytes : (es xs : List ℕ) (i : ℕ) → i * 8 + length es * 8 ≤ end xs → ((k : ℕ) → get_or es k 0 < 256) → ((k : ℕ) → get_or xs k 0 < 256)
    → put xs (i * 8) (bits_of es) ≡ sets xs i es
unfolding put bits_of
put_bytes [] xs i h E X = refl
put_bytes (e ∷ es) xs i h E X =
    let a : i * 8 + length (to_bits 8 e) ≡ suc i * 8 = rw (length-to_bits 8 e) (omega arith) in
    put_append xs (i * 8) (to_bits 8 e) (bits_of es)
    ∙ rw (a, put_byte xs i e (omega arith) X (E 0))
    (put_bytes es (set xs i e) (suc i) (omega (arith, end_is xs, end_is (set xs i e), length-set xs i e)) (λ k. E (suc k)) (set_bytes xs i e X (E 0)))

-- the eight bytes from i on made a number's
pub put-word : (xs : List ℕ) (i x : ℕ) {es : List ℕ} → i * 8 + 64 ≤ end xs → ((k : ℕ) → get_or xs k 0 < 256) → es ≡ to_be_bytes w64 x
    → put_mid i (i + 8 - i) xs es ≡ put xs (i * 8) (to_bits 64 x)
put-word xs i x {es} h X e =
    let l : length es ≡ 8 = ap length e in
    let n : i + 8 - i ≡ 8 = omega arith in
    let E : (k : ℕ) → get_or es k 0 < 256 = rw e (high_bytes 8 x) in
    let s : sets xs i es ≡ put xs (i * 8) (to_bits 64 x) = sym (put_bytes es xs i (omega (arith, end_is xs)) E X) ∙ ap (put xs (i * 8)) (ap bits_of e ∙ bits-of_bytes 8 x) in
    rw (n, drop-drop 8 i xs) (sym (rw l at (sets-eq es xs i (omega (arith, end_is xs))) ∙ append_assoc (take i xs) es (drop (i + 8) xs))) ∙ s

-- Where a run of bits stands already, to store it changes nothing.
stands : (xs : List ℕ) (at n : ℕ) (bs rest : Bits) → length bs ≡ n → from xs at ≡ bs ++ rest → put xs at bs ≡ xs
stands xs at n bs rest h e = ap (put xs at) (sym (take_at bs rest n h) ∙ ap (take n) (sym e)) ∙ put_same xs at n

-- To store u, f and v one behind another, of which u and v stand there, is to store f.
middle : (xs : List ℕ) (at : ℕ) (us fs gs vs rest : Bits) → length fs ≡ length gs → from xs at ≡ us ++ (gs ++ (vs ++ rest)) → put xs at (us ++ (fs ++ vs)) ≡ put xs (at + length us) fs
middle xs at us fs gs vs rest n e =
    let p : Bits = from xs (at + length us + length fs) in
    let d : from xs (at + length us) ≡ gs ++ (vs ++ rest) = from-drop xs at (length us) ∙ ap (drop (length us)) e ∙ drop_at us (gs ++ (vs ++ rest)) (length us) refl in
    let t : from xs (at + length us + length fs) ≡ vs ++ rest = from-drop xs (at + length us) (length fs) ∙ ap (drop (length fs)) d ∙ drop_at gs (vs ++ rest) (length fs) (sym n) in
    let u : put xs at us ≡ xs = stands xs at (length us) us (gs ++ (vs ++ rest)) refl e in
    let v : put (put xs (at + length us) fs) (at + length us + length fs) vs ≡ put xs (at + length us) fs = stands (put xs (at + length us) fs) (at + length us + length fs) (length vs) vs rest refl (put-behind xs (at + length us) fs ∙ t) in
    put_append xs at us (fs ++ vs) ∙ ap (λ (ys : List ℕ). put ys (at + length us) (fs ++ vs)) u ∙ put_append xs (at + length us) fs vs ∙ v

-- The n low bits of v at a place, in the window w of its first byte.
pub window_put : (w at n v : ℕ) → n ≤ 32 → (xs : List ℕ) {ys : List ℕ} {x : ℕ} → from xs (at / 8 * 8) ≡ to_bits 64 w ++ from xs (at / 8 * 8 + 64)
    → x ≡ blend w n (64 - at % 8 - n) v → ys ≡ put xs (at / 8 * 8) (to_bits 64 x) → ys ≡ put xs at (to_bits n v)
window_put w at n v a xs {ys} {x} e q z =
    let r = at % 8 in
    let d = 64 - r - n in
    let s : r + n + d ≡ 64 = omega arith in
    let u = to_bits r (w / 2 ^ d / 2 ^ n) in
    let g = to_bits n (w / 2 ^ d % 2 ^ n) in
    let t = to_bits d (w % 2 ^ d) in
    let k : to_bits 64 w ≡ u ++ (g ++ t) = ap (to_bits 64) (own w n d) ∙ made_bits w n d r s (w / 2 ^ d % 2 ^ n) (mod-lt (w / 2 ^ d) (pow_pos n)) in
    let rest : Bits = from xs (at / 8 * 8 + 64) in
    let o : from xs (at / 8 * 8) ≡ u ++ (g ++ (t ++ rest)) = e ∙ ap (λ (y : Bits). y ++ rest) k ∙ append_assoc u (g ++ t) rest ∙ ap (λ (y : Bits). u ++ y) (append_assoc g t rest) in
    let c : at / 8 * 8 + length u ≡ at = rw (length-to_bits) (omega arith) in
    z
    ∙ ap (put xs (at / 8 * 8)) (ap (to_bits 64) q ∙ blend-bits w n d r v s)
    ∙ middle xs (at / 8 * 8) u (to_bits n v) g t rest (length-to_bits n v ∙ sym (length-to_bits n _)) o
    ∙ ap (λ (x : ℕ). put xs x (to_bits n v)) c
