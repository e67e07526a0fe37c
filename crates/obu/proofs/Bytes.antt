-- Bytes for bits, and whole bytes stored.
use mathlib.Core.Path.{◌≡◌, refl, sym, ◌∙◌, ap, subst}
use mathlib.Core.List.{List, [], ◌∷◌, ◌++◌}
use Prim.Native.Nat.{ℕ, zero, suc, ◌+◌, ◌*◌, ◌^◌, ◌<◌, ◌≤◌}
use native.Mathlib.Omega.{arith}
use lib.ListN.{length, get_or, take, drop, take-append-drop, length-drop}
use lib.Seq.{sets-eq, take_at, drop_at, length-take-le}
use lib.Dec.{lit<}
use Rattle.bits.specs.Bits.{Bits, to_bits, from_bits, bits_of, put}
use Rattle.bits.specs.Codec.{nil}
use Rattle.bits.proofs.Numbers.{length-to_bits, from-to_fits, to-from, from_lt}
use Rattle.writer.proofs.Windows.{put_bytes}
use Rattle.bits.proofs.Places.{length-bits_of, end_is}
use Rattle.obu.specs.Demand3.{AreBytes}

-- the bytes of m times eight bits
pub pack : ℕ → Bits → List ℕ
pack zero bs = []
pack (suc m) bs = from_bits (take 8 bs) ∷ pack m (drop 8 bs)

pub pack_length : (m : ℕ) (bs : Bits) → length (pack m bs) ≡ m
unfolding pack
pack_length zero bs = refl
pack_length (suc m) bs = ap suc (pack_length m (drop 8 bs))

nothing : (bs : Bits) → length bs ≡ 0 → [] ≡ bs
nothing [] h = refl
nothing (b ∷ bs) h = absurd (omega arith)

eight : (m : ℕ) (bs : Bits) → length bs ≡ suc m * 8 → length (take 8 bs) ≡ 8
eight m bs h = length-take-le 8 bs (omega arith)

others : (m : ℕ) (bs : Bits) → length bs ≡ suc m * 8 → length (drop 8 bs) ≡ m * 8
others m bs h = rw (length-drop 8 bs) (omega arith)

pub bits_of_pack : (m : ℕ) (bs : Bits) → length bs ≡ m * 8 → bits_of (pack m bs) ≡ bs
unfolding pack bits_of
bits_of_pack zero bs h = nothing bs h
bits_of_pack (suc m) bs h =
    let e = eight m bs h in
    let t : to_bits 8 (from_bits (take 8 bs)) ≡ take 8 bs = subst (λ (n : ℕ). to_bits n (from_bits (take 8 bs)) ≡ take 8 bs) e (to-from (take 8 bs)) in
    rw (t, bits_of_pack m (drop 8 bs) (others m bs h)) (take-append-drop 8 bs)

pub pack_bytes : (m : ℕ) (bs : Bits) → length bs ≡ m * 8 → AreBytes (pack m bs)
unfolding pack
pack_bytes zero bs h = nil
pack_bytes (suc m) bs h = (subst (λ (n : ℕ). from_bits (take 8 bs) < 2 ^ n) (eight m bs h) (from_lt (take 8 bs)), pack_bytes m (drop 8 bs) (others m bs h))

pub pack_bits_of : (xs : List ℕ) → AreBytes xs → pack (length xs) (bits_of xs) ≡ xs
unfolding pack bits_of
pack_bits_of [] h = refl
pack_bits_of (x ∷ xs) h =
    rw (take_at (to_bits 8 x) (bits_of xs) 8 (length-to_bits 8 x), drop_at (to_bits 8 x) (bits_of xs) 8 (length-to_bits 8 x), from-to_fits 8 x h.0, pack_bits_of xs h.1)

pub bits_of-same : (xs ys : List ℕ) → AreBytes xs → AreBytes ys → bits_of xs ≡ bits_of ys → xs ≡ ys
bits_of-same xs ys X Y e =
    let n : length xs ≡ length ys = omega (arith, length-bits_of xs, length-bits_of ys, ap length e) in
    sym (pack_bits_of xs X) ∙ rw (n, e) (pack_bits_of ys Y)

each : (xs : List ℕ) → AreBytes xs → (k : ℕ) → get_or xs k 0 < 256
each [] X k = lit< tt
each (x ∷ xs) X zero = X.0
each (x ∷ xs) X (suc k) = each xs X.1 k

-- Bytes stored from the start on stand there, and every byte behind them is kept.
pub put-bytes : (xs es : List ℕ) → AreBytes es → AreBytes xs → length es ≤ length xs → length xs ≤ 65536 → put xs 0 (bits_of es) ≡ es ++ drop (length es) xs
put-bytes xs es E X h l =
    let z : 0 + length es ≡ length es = omega arith in
    put_bytes es xs 0 (omega (arith, end_is xs)) (each es E) (each xs X) ∙ rw z at (sets-eq es xs 0 (omega arith))

pub take-put-bytes : (xs es : List ℕ) → AreBytes es → AreBytes xs → length es ≤ length xs → length xs ≤ 65536 → take (length es) (put xs 0 (bits_of es)) ≡ es
take-put-bytes xs es E X h l = rw (put-bytes xs es E X h l) (take_at es (drop (length es) xs) (length es) refl)
