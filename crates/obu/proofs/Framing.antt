-- What framing adds to a payload is never refused, and is at most 11 bytes.
use mathlib.Core.Path.{◌≡◌, refl}
use mathlib.Core.List.{[], ◌++◌}
use mathlib.Core.Bool.{Bool, true, false}
use Prim.Native.Nat.{ℕ, ◌+◌, ◌^◌, ◌≤◌, ◌<◌}
use native.Mathlib.Omega.{arith}
use lib.Dec.{lit≤}
use lib.ListN.{length}
use Rattle.bits.specs.Bits.{Bits}
use Rattle.bits.specs.Walk.{Walk, ◌⊕◌, End, done, refused, wrote, run, bound}
use Rattle.bits.specs.Codec.{Codec, ◌▷◌, choose, via, allowed, f, flag, zeros, absent, merged}
use Rattle.bits.specs.Codes.{leb128, leb_step, too_long}
use Rattle.bits.proofs.Laws.{joined}
use Rattle.bits.proofs.CodeLaws.{leb-total}
use Rattle.bits.proofs.Counting.{Few, few_by, few_then}
use Rattle.obu.specs.declared.header.ObuHeader.{ObuHeader}
use Rattle.obu.specs.Header.{expected_type, obu_extension_header, header_end, header_table, obu_header}
use Rattle.obu.specs.Framing.{obu_size, bytes_for, trailing_bits, bit_count, admitted, framed}
use Rattle.obu.specs.Obu.{obu}
use Rattle.obu.proofs.Frames.{size_out, framed-run, tail}

-- A size below 2^32 is never refused,
pub size-total : (sized : Bool) (n : ℕ) → n < 2 ^ 32 → (y : Bits) × (size_out sized n ≡ wrote y)
size-total true n h = leb-total 8 n (omega arith) (omega arith)
size-total false n h = ([], refl)

-- nor is a payload that is written, of at most 2^32 bits, once it is framed.
pub framed-total : (sized : Bool) (w : Walk) (bs : Bits) → run w ≡ wrote bs → length bs ≤ 2 ^ 32 → (y : Bits) × (run (framed sized w) ≡ wrote y)
framed-total sized w bs e h =
    let s = size-total sized (bytes_for (length bs)) (omega arith) in
    (s.0 ++ (bs ++ tail (length bs)), framed-run sized w s.0 bs e s.1)

pub obu-total : (t : ℕ) {A : Type 0} (p : Codec A) (h : ObuHeader) (v : A) (hs bs : Bits) → run ((obu_header t).enc h) ≡ wrote hs → run (p.enc v) ≡ wrote bs → length bs ≤ 2 ^ 32
    → (y : Bits) × (run ((obu t p).enc (h, v)) ≡ wrote y)
unfolding obu run
obu-total t p h v hs bs d e l = let g = framed-total h.has_size_field (p.enc v) bs e l in (hs ++ g.0, joined d g.1)

-- A header and a size have few bits.
pub head_few : (t : ℕ) (h : ObuHeader) → bound ((obu_header t).enc h) ≤ 16
unfolding bound obu_header header_table header_end expected_type obu_extension_header ◌▷◌ choose via allowed f flag zeros absent
head_few t h = lit≤ tt

pub size_few : (sized : Bool) (n : ℕ) → bound (obu_size sized n) ≤ 64
unfolding obu_size leb128 too_long merged leb_step ◌▷◌ choose f absent bound
size_few sized n = lit≤ tt

admitted-few : (e : End) → bound (admitted e) ≤ 0
unfolding bound
admitted-few done = lit≤ tt
admitted-few (refused r) = lit≤ tt

tail-few : (n : ℕ) → bound (trailing_bits n) ≤ 8
unfolding trailing_bits bound
tail-few n = omega arith

pub padded-few : {n : ℕ} {w : Walk} → Few n w → Few (n + 8) (w ⊕ trailing_bits (bit_count w))
padded-few {w = w} F = few_then F (few_by (tail-few (bit_count w)))

-- What stands around a payload has at most 11 bytes.
pub obu-few : (t : ℕ) {A : Type 0} (p : Codec A) (h : ObuHeader) (v : A) {n : ℕ} → Few n (p.enc v) → Few (n + 88) ((obu t p).enc (h, v))
unfolding obu framed
obu-few t p h v F =
    let rest = few_then (few_by (admitted-few (run (p.enc v)).end)) (few_then (few_by (size_few h.has_size_field (bytes_for (bit_count (p.enc v))))) (padded-few F)) in
    record { most = λ bs e. omega (arith, (few_then (few_by (head_few t h)) rest).most bs e) }
