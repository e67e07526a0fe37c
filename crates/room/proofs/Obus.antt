-- Room for an OBU: by the bits of its walk; and how many bits an OBU takes around a payload.
use mathlib.Core.Path.{◌≡◌, refl, sym, ap, ◌∙◌}
use mathlib.Core.List.{List, ◌++◌}
use mathlib.Core.Bool.{Bool, true, false, cond}
use Prim.Native.Nat.{ℕ, ◌+◌, ◌*◌, ◌≤◌}
use native.Mathlib.Omega.{arith}
use borrow.Author.Tests.{le-ltb}
use lib.Dec.{ltb}
use lib.ListN.{length, length-append}
use Rattle.bits.specs.Bits.{Bits, to_bits}
use Rattle.bits.specs.Walk.{Walk, End, done, refused, Out, wrote, join, run}
use Rattle.bits.specs.Codec.{Codec, ◌▷◌, choose, via, allowed, f, flag, zeros, absent, merged}
use Rattle.bits.specs.Codes.{leb128, leb_step, too_long}
use Rattle.bits.specs.Written.{Answer, whole_bytes}
use Rattle.std.specs.Prelude.{Ok, Err}
use Rattle.bits.specs.declared.answer.Refusal.{Refusal}
use Rattle.bits.specs.declared.answer.Refusal.TheVariants.{Short, Long}
use Rattle.bits.proofs.Numbers.{length-to_bits}
use Rattle.bits.proofs.Laws.{join_inv, joined, wrote-bits}
use Rattle.bits.proofs.CodeLaws.{leb_mono}
use Rattle.bits.proofs.Lengths.{bounded}
use Rattle.bits.proofs.Counting.{Few, Takes, unshort, unshort-ends, never_short}
use Rattle.obu.specs.declared.header.ObuHeader.{ObuHeader}
use Rattle.obu.specs.Header.{expected_type, obu_extension_header, header_end, header_table, obu_header}
use Rattle.obu.specs.Framing.{obu_size, bytes_for, trailing_bits, admitted, framed}
use Rattle.obu.specs.Obu.{obu}
use Rattle.obu.specs.Delimiter.{temporal_delimiter}
use Rattle.obu.specs.Writer.{answer_to, written, Writes, writes}
use Rattle.obu.proofs.Frames.{size_out, framed-run, framed_inv, tail, frame_length}
use Rattle.obu.proofs.Framing.{head_few}
use Rattle.obu.proofs.Writing.{wrote_all, done_is_ended}
use Rattle.room.specs.Enough.{EnoughBytes}

-- what an answer says of the walk
done-bytes : (t u : Bool) (b : ℕ) {m : ℕ} → Ok m ≡ cond t (Err Long) (cond u (Err (Short b)) (Ok b)) → m ≡ b
done-bytes true u b h = let z : ◌≡◌ {A = ℕ} 0 1 = cc in absurd (omega arith)
done-bytes false true b h = let z : ◌≡◌ {A = ℕ} 0 1 = cc in absurd (omega arith)
done-bytes false false b h = cc

short_not_done : (t : Bool) (b : ℕ) {m : ℕ} → Err (Short m) ≡ cond t (Err Long) (Ok b) → ⊥
short_not_done true b h = let z : ◌≡◌ {A = ℕ} 0 1 = cc in omega arith
short_not_done false b h = let z : ◌≡◌ {A = ℕ} 0 1 = cc in omega arith

short_is_own : (t : Bool) {r : Refusal} {m : ℕ} → ◌≡◌ {A = Answer} (Err (Short m)) (cond t (Err Long) (Err r)) → r ≡ Short m
short_is_own true h = let z : ◌≡◌ {A = ℕ} 0 1 = cc in absurd (omega arith)
short_is_own false h = cc

module _ {R : Type 0} (w : R → Walk) (n : ℕ) (F : (r : R) → Few (n * 8) (w r)) (U : (r : R) → unshort (w r) ≡ true) where
  most : (r : R) (xs ys : List ℕ) (m : ℕ) → Writes (w r) xs (Ok m) ys → m ≤ n
  unfolding written
  most r xs ys m (writes p q) =
      let e = done_is_ended {w = w r} {xs = xs} {ys = ys} (writes p q) refl in
      let b = whole_bytes (length (run (w r)).bits) in
      let h : m ≡ b = done-bytes (ltb 65536 (length xs)) (ltb (length xs) b) b (p ∙ rw e) in
      omega (arith, (F r).most _ (wrote_all (run (w r)) e))

  short : (r : R) (xs ys : List ℕ) (m : ℕ) → n ≤ length xs → Writes (w r) xs (Err (Short m)) ys → ⊥
  unfolding written
  short r xs ys m l (writes p q) = go (run (w r)).end refl p
    where
      go : (k : End) → (run (w r)).end ≡ k → Err (Short m) ≡ answer_to k (length (run (w r)).bits) (length xs) → ⊥
      go done e h =
          let b = whole_bytes (length (run (w r)).bits) in
          let k : b ≤ length xs = omega (arith, (F r).most _ (wrote_all (run (w r)) e)) in
          short_not_done (ltb 65536 (length xs)) b (rw (le-ltb (length xs) b k) at h)
      go (refused q) e h = never_short (w r) (U r) (e ∙ ap refused (short_is_own (ltb 65536 (length xs)) h))

  pub enough_bytes : (longest : R) → Takes (n * 8) (w longest) → EnoughBytes w n longest
  unfolding written
  enough_bytes longest T = record { most = most; never_short = short; reached = reached }
    where
      reached : (xs : List ℕ) → length xs ≤ 65536 → (written (w longest) xs).answer ≡ cond (ltb (length xs) n) (Err (Short n)) (Ok n)
      reached xs l = let b : whole_bytes (n * 8) ≡ n = omega arith in rw (le-ltb 65536 (length xs) l, T.ends, T.bits, b)

-- Around a payload of at most n bits stand at most a header with its extension and the size, which is z for n bits.
size-most : (sized : Bool) (a b : ℕ) {y z : Bits} → a ≤ b → size_out sized a ≡ wrote y → size_out true b ≡ wrote z → length y ≤ length z
size-most true a b {z = z} h p q = let m = leb_mono 8 a b z h q in omega (arith, m.2, ap length (wrote-bits (sym m.1 ∙ p)))
size-most false a b h p q = omega (arith, ap length (wrote-bits p))

head-most : (t : ℕ) (h : ObuHeader) {hs : Bits} → run ((obu_header t).enc h) ≡ wrote hs → length hs ≤ 16
head-most t h e = omega (arith, head_few t h, bounded ((obu_header t).enc h), ap (λ (o : Out). length o.bits) e)

module _ (t : ℕ) {A : Type 0} (p : Codec A) (n : ℕ) (z : Bits) (Z : size_out true (bytes_for n) ≡ wrote z) (h : ObuHeader) (v : A) where
  pub obu-most : Few n (p.enc v) → Few (16 + length z + bytes_for n * 8) ((obu t p).enc (h, v))
  unfolding obu run
  obu-most F = record {
    most = λ bs e.
        let j = join_inv (run ((obu_header t).enc h)) (run (framed h.has_size_field (p.enc v))) bs e in
        let k = framed_inv h.has_size_field (p.enc v) j.1 j.3 in
        let few = F.most k.0 k.2 in
        let size = size-most h.has_size_field (bytes_for (length k.0)) (bytes_for n) (omega arith) k.3 Z in
        let whole = ap length (sym j.4) ∙ length-append j.0 j.1 in
        let rest = ap length (sym k.4) ∙ length-append k.1 (k.0 ++ tail (length k.0)) in
        omega (arith, whole, rest, size, frame_length k.0, few, head-most t h j.2);
  }

  -- and where all of it is there, it takes so many
  pub obu_takes : Takes 16 ((obu_header t).enc h) → h.has_size_field ≡ true → Takes n (p.enc v) → Takes (16 + length z + bytes_for n * 8) ((obu t p).enc (h, v))
  unfolding obu run
  obu_takes H s T =
      let hs = (run ((obu_header t).enc h)).bits in
      let bs = (run (p.enc v)).bits in
      let size : size_out h.has_size_field (bytes_for (length bs)) ≡ wrote z = rw (s, T.bits) Z in
      let g = joined (wrote_all (run ((obu_header t).enc h)) H.ends) (framed-run h.has_size_field (p.enc v) z bs (wrote_all (run (p.enc v)) T.ends) size) in
      let rest = length-append z (bs ++ tail (length bs)) in
      record { ends = ap (λ (o : Out). o.end) g; bits = ap (λ (o : Out). length o.bits) g ∙ omega (arith, length-append hs (z ++ (bs ++ tail (length bs))), rest, frame_length bs, H.bits, T.bits) }

-- The temporal delimiter has no payload, and its size is 0.
pub delimiter_most : (h : ObuHeader) → Few 24 (temporal_delimiter h)
unfolding temporal_delimiter obu_size leb128 merged leb_step ◌▷◌ choose f absent run join to_bits
delimiter_most h = record {
  most = λ bs e.
      let j = join_inv (run ((obu_header 2).enc h)) (size_out h.has_size_field 0) bs e in
      let size = size-most h.has_size_field 0 0 (omega arith) j.3 no_size in
      omega (arith, size, length-to_bits 8 0, head-most 2 h j.2, ap length (sym j.4) ∙ length-append j.0 j.1);
}
  where
    no_size : size_out true 0 ≡ wrote (to_bits 8 0)
    no_size = refl

-- An OBU's own refusals are never 3, if its payload's are not.
admitted-unshort : (w : Walk) → unshort w ≡ true → unshort (admitted (run w).end) ≡ true
unfolding unshort
admitted-unshort w u = go (run w).end refl
  where
    go : (k : End) → (run w).end ≡ k → unshort (admitted k) ≡ true
    go done e = refl
    go (refused r) e = unshort-ends w u e

head-unshort : (t : ℕ) (h : ObuHeader) → unshort ((obu_header t).enc h) ≡ true
unfolding unshort obu_header header_table header_end expected_type obu_extension_header ◌▷◌ choose via allowed f flag zeros absent
head-unshort t h = refl

size-unshort : (sized : Bool) (n : ℕ) → unshort (obu_size sized n) ≡ true
unfolding unshort obu_size leb128 too_long merged leb_step ◌▷◌ choose f absent
size-unshort sized n = refl

tail-unshort : (n : ℕ) → unshort (trailing_bits n) ≡ true
unfolding unshort trailing_bits
tail-unshort n = refl

pub obu-unshort : (t : ℕ) {A : Type 0} (p : Codec A) (h : ObuHeader) (v : A) → unshort (p.enc v) ≡ true → unshort ((obu t p).enc (h, v)) ≡ true
unfolding unshort obu framed
obu-unshort t p h v u = rw (head-unshort t h, admitted-unshort (p.enc v) u, size-unshort h.has_size_field (bytes_for (length (run (p.enc v)).bits)), u, tail-unshort (length (run (p.enc v)).bits))

pub delimiter_unshort : (h : ObuHeader) → unshort (temporal_delimiter h) ≡ true
unfolding unshort temporal_delimiter
delimiter_unshort h = rw (head-unshort 2 h, size-unshort h.has_size_field 0)
