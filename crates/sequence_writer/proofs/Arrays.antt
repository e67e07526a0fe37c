-- An OBU whose parts are walked once, each into an array of zeros, and written as two byte strings, one behind the other.
use mathlib.Core.Path.{◌≡◌, refl, sym, ◌∙◌, ap, subst}
use mathlib.Core.List.{List, [], ◌∷◌, ◌++◌, append_assoc, append-nil}
use mathlib.Core.Bool.{Bool}
use Prim.Native.Nat.{ℕ, zero, suc, ◌+◌, ◌-◌, ◌*◌, ◌/◌, ◌≤◌, ◌<◌}
use native.Mathlib.Omega.{arith}
use lib.Dec.{lit≤}
use lib.ListN.{length, length-append, replicate, length-replicate, take, drop, length-take, length-drop}
use lib.Seq.{take_at, drop_at, length-take-le, take-length, drop-length, drop-drop}
use borrow.Rule.Slice.PartMut.{put_mid}
use Rattle.std.specs.Prelude.{Ok, Err}
use Rattle.std.specs.Result.{IsErrAnd, result_from_control_flow}
use Rattle.std.proofs.Common.{Continue, Break}
use Rattle.bits.specs.Bits.{Bits, to_bits, bits_of, put}
use Rattle.bits.specs.Walk.{Walk, ◌⊕◌, End, done, refused, Out, wrote, after, join, run, bound}
use Rattle.bits.specs.Codec.{Codec, nil}
use Rattle.bits.specs.Answers.{capped}
use Rattle.bits.specs.Lawful.{strict}
use Rattle.bits.specs.Written.{Answer}
use Rattle.bits.specs.declared.answer.Refusal.{Refusal}
use Rattle.bits.specs.declared.answer.Refusal.TheVariants.{Long}
use Rattle.bits.proofs.Laws.{wrote-bits, refused-done, join_inv, joined}
use Rattle.bits.proofs.Passing.{taken, broke, passed}
use Rattle.bits.proofs.Counting.{Few, few_by}
use Rattle.writer.specs.Walked.{answer, Walked}
use Rattle.writer.specs.declared.BitWriter.{BitWriter}
use Rattle.writer.proofs.Walking as W
use Rattle.writer.proofs.Walking.{ok-err, answered, bytes, kept, went, hop, halt, on}
use Rattle.obu.specs.declared.header.ObuHeader.{ObuHeader}
use Rattle.obu.specs.Header.{obu_header}
use Rattle.obu.specs.Framing.{obu_size, bytes_for, bit_count, trailing_bits, framed}
use Rattle.obu.specs.Obu.{obu}
use Rattle.obu.specs.Delimiter.{octets}
use Rattle.obu.specs.Demand3.{AreBytes}
use Rattle.obu.specs.Writer.{written, Writes, writes, verdict}
use Rattle.obu.proofs.Bytes.{pack, pack_length, pack_bytes, bits_of_pack, take-put-bytes}
use Rattle.obu.proofs.Headers.{header_law, header-length}
use Rattle.obu.proofs.Frames.{tail, size_out, tail-run, framed-run, size_own, size-length, frame_length}
use Rattle.obu.proofs.Framing.{size-total, head_few, size_few, padded-few}
use Rattle.obu.proofs.Strings.{octets-run, writes_as, string_room, string_ended, string_filled}
use Rattle.obu.proofs.Writing.{untouched, too_long, refusing, counts}

-- Strings of bytes, one behind the other
bits_of_append : (xs ys : List ℕ) → bits_of (xs ++ ys) ≡ bits_of xs ++ bits_of ys
unfolding bits_of
bits_of_append [] ys = refl
bits_of_append (x ∷ xs) ys = rw (bits_of_append xs ys) (sym (append_assoc (to_bits 8 x) (bits_of xs) (bits_of ys)))

are_append : (xs ys : List ℕ) → AreBytes xs → AreBytes ys → AreBytes (xs ++ ys)
are_append [] ys h k = k
are_append (x ∷ xs) ys h k = (h.0, are_append xs ys h.1 k)

are_zeros : (n : ℕ) → AreBytes (replicate n 0)
are_zeros zero = nil
are_zeros (suc n) = (omega arith, are_zeros n)

-- What a walk of m whole bytes leaves in an array of zeros: their string
string : (n m : ℕ) (bs : Bits) → length bs ≡ m * 8 → m ≤ n → n ≤ 65536 → (bits_of (take m (put (replicate n 0) 0 bs)) ≡ bs) × AreBytes (take m (put (replicate n 0) 0 bs))
string n m bs h l k =
    let e = bits_of_pack m bs h in
    let c = pack_length m bs in
    let z = length-replicate {A = ℕ} n 0 in
    let t = take-put-bytes (replicate n 0) (pack m bs) (pack_bytes m bs h) (are_zeros n) (omega arith) (omega arith) in
    let u : take m (put (replicate n 0) 0 bs) ≡ pack m bs = ap (λ (j : ℕ). take j (put (replicate n 0) 0 bs)) (sym c) ∙ ap (λ (x : Bits). take (length (pack m bs)) (put (replicate n 0) 0 x)) (sym e) ∙ t in
    (ap bits_of u ∙ e, subst AreBytes (sym u) (pack_bytes m bs h))

-- What a walk that passed leaves in an array of n zeros: the string of its first bytes
module _ (n : ℕ) {w : Walk} {most : ℕ} (F : Few most w) (holds : most ≤ n * 8) (short : n ≤ 65536) {a b : BitWriter} {s : W.Answer} (start : a.at ≡ 0) (clear : a.out.now ≡ replicate n 0) (g : Walked w a b s) (q : s ≡ Ok tt) where
  ends : (b.at ≡ length (run w).bits) × (b.at ≤ most)
  ends = let c = counts start g F (omega arith) q in (c.1, c.2)

  pub string_count : b.at / 8 ≡ length (take (b.at / 8) b.out.now)
  string_count = sym (length-take-le (b.at / 8) b.out.now (omega (arith, ends.1, kept g, ap length clear, length-replicate {A = ℕ} n 0)))

  pub string_few : length (take (b.at / 8) b.out.now) ≤ n
  string_few = omega (arith, string_count, ends.1)

  -- (where its bits are whole bytes)
  leaves : (m : ℕ) → length (run w).bits ≡ m * 8 → (bits_of (take (b.at / 8) b.out.now) ≡ (run w).bits) × AreBytes (take (b.at / 8) b.out.now)
  leaves m e =
      let i : m ≡ b.at / 8 = omega (arith, ends.0) in
      let y : put (replicate n 0) 0 (run w).bits ≡ b.out.now = sym (bytes g ∙ (λ j. put (clear j) (start j) (run w).bits)) in
      let z = string n m (run w).bits e (omega (arith, ends.0, ends.1)) short in
      rw (← i, ← y) z

-- The header and the size: at most ten bytes, all whole
pub sized_few : (t : ℕ) (h : ObuHeader) (sized : Bool) (n : ℕ) → Few 80 ((obu_header t).enc h ⊕ obu_size sized n)
unfolding bound
sized_few t h sized n = few_by (omega (arith, head_few t h, size_few sized n))

-- what they wrote
sized_inv : (t : ℕ) (h : ObuHeader) (sized : Bool) (n : ℕ) (bs : Bits) → run ((obu_header t).enc h ⊕ obu_size sized n) ≡ wrote bs
    → (x : Bits) × (y : Bits) × (m : ℕ) × (run ((obu_header t).enc h) ≡ wrote x) × (size_out sized n ≡ wrote y) × (x ++ y ≡ bs) × (length bs ≡ m * 8)
unfolding run obu_size
sized_inv t h sized n bs e =
    let j = join_inv (run ((obu_header t).enc h)) (size_out sized n) bs e in
    let a = header-length t h j.0 ((header_law {g = strict} t).own h j.0 j.2) in
    let b = size-length sized n j.1 (size_own sized n j.1 j.3) in
    (j.0, j.1, a.0 + b.0, j.2, j.3, j.4, omega (arith, a.1, b.1, ap length (sym j.4) ∙ length-append j.0 j.1))

-- The payload and its trailing bits
abbrev pub padded : Walk → Walk
padded w = w ⊕ trailing_bits (bit_count w)

padded_inv : (w : Walk) (bs : Bits) → run (padded w) ≡ wrote bs → (x : Bits) × (run w ≡ wrote x) × (x ++ tail (length x) ≡ bs)
unfolding run
padded_inv w bs e =
    let j = join_inv (run w) (run (trailing_bits (bit_count w))) bs e in
    let m : bit_count w ≡ length j.0 = ap (λ (o : Out). length o.bits) j.2 in
    let u : tail (length j.0) ≡ j.1 = wrote-bits (sym (tail-run (length j.0)) ∙ ap (λ (k : ℕ). run (trailing_bits k)) (sym m) ∙ j.3) in
    (j.0, j.2, ap (λ (y : Bits). j.0 ++ y) u ∙ j.4)

-- written one behind the other
pub pad : {n : ℕ} {w : Walk} {a b c : BitWriter} {s t : W.Answer} {k : _} {x : Unit {0}} → Few n w → n ≤ 2000000 → a.at ≡ 0 → Walked w a b s → s ≡ result_from_control_flow k → k ≡ Continue x → Walked (trailing_bits b.at) b c t → Walked (padded w) a c t
pad {b = b} {c = c} {t = t} {k = k} F l z g e h y = hop g (taken k e h) (subst (λ (n : ℕ). Walked (trailing_bits n) b c t) (counts z g F l (taken k e h)).1 y)

-- Refusals
halted : {w : Walk} {a b : BitWriter} {s : W.Answer} {r : Refusal} → Walked w a b s → s ≡ Err r → (run w).end ≡ refused r
halted {w} p q = go (run w).end (sym q ∙ answered p)
  where
    go : (e : End) {r : Refusal} → Err r ≡ answer e → e ≡ refused r
    go done h = absurd (ok-err (sym h))
    go (refused x) h = cc

left : {w : Walk} {xs : List ℕ} {a : Answer} {r : Refusal} → written w xs ≡ untouched r xs → a ≡ Err r → Writes w xs a xs
left {w} {xs} e q = writes (q ∙ (λ i. (sym e i).answer)) (λ i. (sym e i).bytes)

pub longer : {w : Walk} {xs : List ℕ} → 65536 < length xs → Writes w xs (Err Long) xs
longer {w} {xs} h = left (too_long w xs h) refl

after-done : (o p : Out) {r : Refusal} → o.end ≡ done → p.end ≡ refused r → (join o p).end ≡ refused r
unfolding join
after-done o p h k = rw (h, k)

framed-end : (sized : Bool) (w : Walk) {r : Refusal} → (run w).end ≡ refused r → (run (framed sized w)).end ≡ refused r
unfolding framed run join
framed-end sized w e = rw e

padded-end : (w : Walk) {r : Refusal} → (run (padded w)).end ≡ refused r → (run w).end ≡ refused r
unfolding run join
padded-end w {r} h = go (run w).end (rw (tail-run (bit_count w)) at h)
  where
    go : (e : End) → (after e (run w).bits (wrote (tail (bit_count w)))).end ≡ refused r → e ≡ refused r
    go done k = let z : ◌≡◌ {A = ℕ} 0 1 = cc in absurd (omega arith)
    go (refused q) k = k

-- The whole
module _ (t : ℕ) {A : Type 0} (p : Codec A) (h : ObuHeader) (v : A) {xs : List ℕ} {r : Answer} (short : length xs ≤ 65536) {s : W.Answer} {k d : _} (e : s ≡ result_from_control_flow k) (i : k ≡ Break d) (z : IsErrAnd r (λ y. y ≡ d.0)) where
  stopped : (run ((obu t p).enc (h, v))).end ≡ refused d.0 → Writes ((obu t p).enc (h, v)) xs r xs
  stopped q = left (refusing _ xs d.0 short q) (passed d.0 r z)

  pub no_header : {a b : BitWriter} → Walked ((obu_header t).enc h) a b s → Writes ((obu t p).enc (h, v)) xs r xs
  unfolding obu
  no_header g = let q = broke k e i in stopped (halted (halt {w = framed h.has_size_field (p.enc v)} g q) q)

  pub no_payload : {a b c d : BitWriter} {u : W.Answer} {m : _} {x : Unit {0}} → Walked ((obu_header t).enc h) a b u → u ≡ result_from_control_flow m → m ≡ Continue x → Walked (padded (p.enc v)) c d s → Writes ((obu t p).enc (h, v)) xs r xs
  unfolding obu run
  no_payload {m = m} g f j y =
      stopped (after-done _ _ (ap (λ (o : Out). o.end) (went g (taken m f j))) (framed-end h.has_size_field (p.enc v) (padded-end (p.enc v) (halted y (broke k e i)))))

  -- a size is never refused
  pub no_size : (b : Bool) (c n : ℕ) {x y : BitWriter} → c ≡ capped n → Walked (obu_size b c) x y s → Writes ((obu t p).enc (h, v)) xs r xs
  unfolding obu_size run
  no_size b c n m g =
      let y = size-total b c (omega arith) in
      absurd (refused-done (sym (halted g (broke k e i)) ∙ ap (λ (o : Out). o.end) y.1))

join_strings : (t : ℕ) {A : Type 0} (p : Codec A) (h : ObuHeader) (v : A) (k : ℕ) (xs ys : List ℕ) (x y : Bits) → run ((obu_header t).enc h ⊕ obu_size h.has_size_field k) ≡ wrote x → run (padded (p.enc v)) ≡ wrote y
    → k * 8 ≡ length y → bits_of xs ≡ x → AreBytes xs → bits_of ys ≡ y → AreBytes ys → run (octets (xs ++ ys)) ≡ run ((obu t p).enc (h, v))
unfolding obu run
join_strings t p h v k xs ys x y X Y l e E d D =
    let i = sized_inv t h h.has_size_field k x X in
    let j = padded_inv (p.enc v) y Y in
    let body = j.0 in
    let n : k ≡ bytes_for (length body) = omega (arith, frame_length body, ap length j.2) in
    let whole = joined i.3 (framed-run h.has_size_field (p.enc v) i.1 body j.1 (ap (λ (q : ℕ). size_out h.has_size_field q) (sym n) ∙ i.4)) in
    let is : bits_of (xs ++ ys) ≡ i.0 ++ (i.1 ++ (body ++ tail (length body))) =
    bits_of_append xs ys ∙ ap (λ (z : Bits). z ++ bits_of ys) (e ∙ sym i.5) ∙ ap (λ (z : Bits). i.0 ++ i.1 ++ z) (d ∙ sym j.2) ∙ append_assoc i.0 i.1 (body ++ tail (length body)) in
    octets-run (xs ++ ys) (are_append xs ys E D) ∙ ap (λ (z : Bits). wrote z) is ∙ sym whole

-- What is written of the strings in both arrays is written of the OBU. (The payload has at most `most` bits, and its array `room` bytes, which hold
-- them and the trailing bits.)
module _ (t : ℕ) {A : Type 0} (p : Codec A) (h : ObuHeader) (v : A) (k room : ℕ) {most : ℕ} (F : Few most (p.enc v)) (holds : most + 8 ≤ room * 8) (short : room ≤ 65526) where
  pub once : {a b c d : BitWriter} {s u : W.Answer} → a.at ≡ 0 → a.out.now ≡ replicate 10 0 → Walked ((obu_header t).enc h ⊕ obu_size h.has_size_field k) a b s → s ≡ Ok tt
      → c.at ≡ 0 → c.out.now ≡ replicate room 0 → Walked (padded (p.enc v)) c d u → u ≡ Ok tt → k ≡ capped (d.at / 8)
      → {xs ys : List ℕ} {r : Answer} → Writes (octets (take (b.at / 8) b.out.now ++ take (d.at / 8) d.out.now)) xs r ys → Writes ((obu t p).enc (h, v)) xs r ys
  once z e g i y f j l n w =
      let H = sized_few t h h.has_size_field k in
      let P = padded-few F in
      let m = sized_inv t h h.has_size_field k _ (went g i) in
      let o = padded_inv (p.enc v) _ (went j l) in
      let b8 = ap length (sym o.2) ∙ frame_length o.0 in
      let X = leaves 10 H (lit≤ tt) (lit≤ tt) z e g i m.2 m.6 in
      let c = ends room P holds (omega arith) y f j l in
      let Y = leaves room P holds (omega arith) y f j l (bytes_for (length o.0)) b8 in
      writes_as (join_strings t p h v k _ _ _ _ (went g i) (went j l) (omega (arith, n, c.0, c.1, b8)) X.0 X.1 Y.0 Y.1) w

-- Two strings written one behind the other
two_copies : (fs ss xs ys zs : List ℕ) → ys ≡ fs ++ drop (length fs) xs → zs ≡ ss ++ drop (length ss) (take (length ys - length fs) (drop (length fs) ys))
    → put_mid (length fs) (length ys - length fs) ys zs ≡ fs ++ ss ++ drop (length (fs ++ ss)) xs
two_copies fs ss xs ys zs k m =
    let n = length fs in
    let y : ys ≡ fs ++ drop n xs = k in
    let a : take n ys ≡ fs = ap (take n) y ∙ take_at fs (drop n xs) n refl in
    let b : drop n ys ≡ drop n xs = ap (drop n) y ∙ drop_at fs (drop n xs) n refl in
    let c : length ys - n ≡ length (drop n xs) = omega (arith, ap length y, length-append fs (drop n xs)) in
    let z : zs ≡ ss ++ drop (length ss) (drop n xs) = rw (b, c, take-length (drop n xs)) at m in
    rw (a, b, c, z, drop-length, length-append, append-nil) (sym (append_assoc fs ss (drop (length ss) (drop n xs))) ∙ ap (λ (l : List ℕ). fs ++ ss ++ l) (drop-drop (length ss) n xs))

module _ (fs ss xs : List ℕ) (few : length fs + length ss ≤ 65536) {a : Answer} (q : a ≡ verdict (Ok tt) ((length fs + length ss) * 8) (length xs)) (k : _) (e : a ≡ result_from_control_flow k) where
  both : length (fs ++ ss) ≤ 65536
  both = omega (arith, length-append fs ss)

  told : a ≡ verdict (Ok tt) (length (fs ++ ss) * 8) (length xs)
  told = q ∙ ap (λ (n : ℕ). verdict (Ok tt) (n * 8) (length xs)) (sym (length-append fs ss))

  room : {n : ℕ} → k ≡ Continue n → length fs + length ss ≤ length xs
  room h = omega (arith, string_room (fs ++ ss) xs both told k e h, length-append fs ss)

  pub first_room : {n : ℕ} → k ≡ Continue n → length fs ≤ length xs
  first_room h = omega (arith, room h)

  pub second_room : {n : ℕ} → k ≡ Continue n → (ys : List ℕ) → ys ≡ fs ++ drop (length fs) xs → length ss ≤ length (take (length ys - length fs) (drop (length fs) ys))
  second_room h ys l =
      omega (
        arith,
        room h,
        ap length l,
        length-append fs (drop (length fs) xs),
        length-drop (length fs) xs,
        length-drop (length fs) ys,
        length-take (length ys - length fs) (drop (length fs) ys),
      )

  pub strings_ended : AreBytes fs → AreBytes ss → {r : Answer} {d : _} → k ≡ Break d → IsErrAnd r (λ y. y ≡ d.0) → Writes (octets (fs ++ ss)) xs r xs
  strings_ended F S h z = string_ended (fs ++ ss) xs both told k e (are_append fs ss F S) h z

  pub strings_filled : AreBytes fs → AreBytes ss → AreBytes xs → {n : ℕ} → k ≡ Continue n → (ys zs : List ℕ) → ys ≡ fs ++ drop (length fs) xs
      → zs ≡ ss ++ drop (length ss) (take (length ys - length fs) (drop (length fs) ys)) → Writes (octets (fs ++ ss)) xs (Ok n) (put_mid (length fs) (length ys - length fs) ys zs)
  strings_filled F S X h ys zs l m = string_filled (fs ++ ss) xs both told k e (are_append fs ss F S) X h (two_copies fs ss xs ys zs l m)
