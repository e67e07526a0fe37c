-- What a part's contract fixes, and the law by which a writer that walks over an array meets it.
use mathlib.Core.Path.{◌≡◌, refl, sym, ap, ◌∙◌}
use mathlib.Core.List.{List, ◌++◌}
use mathlib.Core.Bool.{Bool, true, false, cond}
use Prim.Native.Nat.{ℕ, ◌+◌, ◌-◌, ◌*◌, ◌/◌, ◌%◌, ◌≤◌}
use native.Mathlib.Omega.{arith}
use borrow.Author.Tests.{le-ltb, ltb-false}
use lib.Dec.{ltb}
use lib.ListN.{length, take, drop, replicate, length-replicate, length-append, length-take, length-drop, take-append-drop}
use lib.Seq.{take-append-le, take-take}
use Rattle.bits.specs.Bits.{Bits, put, from, end}
use Rattle.bits.specs.Walk.{Walk, End, done, refused, wrote, run, bound}
use Rattle.bits.specs.Codec.{Codec, got}
use Rattle.bits.specs.Lawful.{loose, Lawful}
use Rattle.bits.specs.Written.{Written, keep, whole_bytes, Answer}
use Rattle.std.specs.Prelude.{Ok}
use Rattle.bits.specs.declared.answer.Refusal.TheVariants.{Short, Long}
use Rattle.writer.specs.Walked.{forward, answer, Walked}
use Rattle.writer.specs.declared.BitWriter.{BitWriter}
use Rattle.writer.proofs.Walking.{Answer as Step}
use Rattle.bits.proofs.Lengths.{bounded}
use Rattle.writer.proofs.Walking.{answered, bytes, place as walked_to}
use Rattle.bits.proofs.Storing.{put_beyond, length-put}
use Rattle.bits.proofs.Pieces.{take_put, drop-put, put_out}
use Rattle.bits.proofs.Places.{end_is, put-bits, put_front}
use Rattle.parts.specs.Settled.{lent, after_near, settled, Settles, settles}
use Rattle.parts.specs.Written.{after_walk, written, Writes, writes}

-- Two answers that the contract allows are equal, and so are two contents of the slice.
pub only : {w : Walk} {place : ℕ} {xs ys zs : List ℕ} {r s : Answer} → Writes w place xs r ys → Writes w place xs s zs → (r ≡ s) × (ys ≡ zs)
only (writes a b) (writes c d) = (a ∙ sym c, b ∙ sym d)

stored : (t : Bool) (k : End) (bs : Bits) (place : ℕ) (xs : List ℕ) {n : ℕ} → Ok n ≡ (cond t (keep Long xs) (after_walk k bs place xs)).answer → put xs place bs ≡ (cond t (keep Long xs) (after_walk k bs place xs)).bytes
stored true k bs place xs h = let z : ◌≡◌ {A = ℕ} 0 1 = cc in absurd (omega arith)
stored false (refused r) bs place xs h = let z : ◌≡◌ {A = ℕ} 0 1 = cc in absurd (omega arith)
stored false done bs place xs {n} h = go (ltb (length xs * 8) (place + length bs)) h
  where
    go : (t : Bool) → Ok n ≡ (cond t (keep (Short (whole_bytes (place + length bs))) xs) (record { answer = Ok (place + length bs); bytes = put xs place bs })).answer
        → put xs place bs ≡ (cond t (keep (Short (whole_bytes (place + length bs))) xs) (record { answer = Ok (place + length bs); bytes = put xs place bs })).bytes
    go true h = let z : ◌≡◌ {A = ℕ} 0 1 = cc in absurd (omega arith)
    go false h = refl

-- What is done was walked to its end and had room.
pub record Room (w : Walk) (place : ℕ) (xs ys : List ℕ) (n : ℕ) : Type 0 where
  pub few : length xs ≤ 65536
  pub walked : run w ≡ wrote (run w).bits
  pub place_is : n ≡ place + length (run w).bits
  pub inside : place + length (run w).bits ≤ end xs
  pub content : ys ≡ put xs place (run w).bits

fitted : (t : Bool) (k : End) (bs : Bits) (place : ℕ) (xs : List ℕ) {n : ℕ} → Ok n ≡ (cond t (keep Long xs) (after_walk k bs place xs)).answer
    → (t ≡ false) × (k ≡ done) × (n ≡ place + length bs) × (place + length bs ≤ length xs * 8)
fitted true k bs place xs h = let z : ◌≡◌ {A = ℕ} 0 1 = cc in absurd (omega arith)
fitted false (refused r) bs place xs h = let z : ◌≡◌ {A = ℕ} 0 1 = cc in absurd (omega arith)
fitted false done bs place xs {n} h = go (ltb (length xs * 8) (place + length bs)) refl h
  where
    go : (t : Bool) → ltb (length xs * 8) (place + length bs) ≡ t → Ok n ≡ (cond t (keep (Short (whole_bytes (place + length bs))) xs) (record { answer = Ok (place + length bs); bytes = put xs place bs })).answer
        → (◌≡◌ {A = Bool} false false) × (◌≡◌ {A = End} done done) × (n ≡ place + length bs) × (place + length bs ≤ length xs * 8)
    go true e h = let z : ◌≡◌ {A = ℕ} 0 1 = cc in absurd (omega arith)
    go false e h = (refl, refl, (cc), ltb-false (length xs * 8) (place + length bs) e)

pub room : (w : Walk) (place : ℕ) (xs ys : List ℕ) (n : ℕ) → Writes w place xs (Ok n) ys → Room w place xs ys n
unfolding written
room w place xs ys n (writes a b) =
    let r = fitted (ltb 65536 (length xs)) (run w).end (run w).bits place xs a in
    let l = ltb-false 65536 (length xs) r.0 in
    record {
      few = l;
      walked = λ i. record { bits = (run w).bits; end = r.1 i };
      place_is = r.2;
      inside = omega (arith, r.3, end_is xs);
      content = b ∙ sym (stored (ltb 65536 (length xs)) (run w).end (run w).bits place xs a);
    }

-- Exactly the part's bits stand at the place, and every other bit is kept.
pub exact : (w : Walk) (place : ℕ) (xs ys : List ℕ) (n : ℕ) → Writes w place xs (Ok n) ys → from ys 0 ≡ take place (from xs 0) ++ (run w).bits ++ drop n (from xs 0)
exact w place xs ys n g = let r = room w place xs ys n g in rw (r.place_is, r.content) (put-bits xs place (run w).bits r.inside)

-- What a table's writer has written reads back: what was coded, and behind it what stood there.
pub reads_back : {A : Type 0} {c : Codec A} → Lawful loose c → (a : A) (place : ℕ) (xs ys : List ℕ) (n : ℕ) → Writes (c.enc a) place xs (Ok n) ys → c.dec (from ys place) ≡ got (c.coded a) (from xs n)
reads_back {c = c} C a place xs ys n g =
    let r = room (c.enc a) place xs ys n g in
    rw (r.place_is, r.content, put_front xs place (run (c.enc a)).bits r.inside) (C.complete a (run (c.enc a)).bits (from xs (place + length (run (c.enc a)).bits)) (C.own a (run (c.enc a)).bits r.walked))

-- A walk that an array of n bytes holds, from any bit of its first byte on and with room for eight bytes more, so that a store of eight bytes at once never passes its end.
pub record Near (n : ℕ) (w : Walk) : Type 0 where
  pub most : bound w + 71 ≤ n * 8
  pub size : n ≤ 72

-- the bytes that the walk reached, back in the slice
back : (xs ns : List ℕ) (place : ℕ) (bs : Bits) → length xs ≤ 65536 → place + length bs ≤ length xs * 8 → place % 8 + length bs ≤ length ns * 8
    → take (place / 8) xs ++ (take (whole_bytes (place % 8 + length bs)) (put (lent xs place ns) (place % 8) bs) ++ drop (whole_bytes (place % 8 + length bs)) (drop (place / 8) xs)) ≡ put xs place bs
unfolding lent
back xs ns place bs h l m =
    let i = place / 8 in
    let r = place % 8 in
    let k = whole_bytes (r + length bs) in
    let ds = drop i xs in
    let ms = take (length ns) ds ++ drop (length xs - i) ns in
    let p : place ≡ i * 8 + r = omega arith in
    let a : take k ms ≡ take k ds =
    take-append-le k (take (length ns) ds) (drop (length xs - i) ns) (omega (arith, length-take (length ns) ds, length-drop i xs)) ∙ take-take k (length ns) ds (omega arith) in
    let b : take k (put ms r bs) ≡ take k (put ds r bs) = take_put k ms r bs ∙ ap (λ (zs : List ℕ). put zs r bs) a ∙ sym (take_put k ds r bs) in
    let d : drop k ds ≡ drop k (put ds r bs) = sym (put_beyond ds r bs k (omega arith)) in
    let e : take i xs ≡ take i (put xs place bs) = sym (take_put i xs place bs ∙ put_out (take i xs) place bs (omega (arith, length-take i xs))) in
    let f : put ds r bs ≡ drop i (put xs place bs) = sym (ap (λ (j : ℕ). drop i (put xs j bs)) p ∙ drop-put i xs r bs (omega arith)) in
    rw (b, d, take-append-drop k (put ds r bs), e, f) (take-append-drop i (put xs place bs))

lent_length : (xs : List ℕ) (place : ℕ) (ns : List ℕ) → length (lent xs place ns) ≡ length ns
unfolding lent
lent_length xs place ns =
    omega (
      arith,
      length-append (take (length ns) (drop (place / 8) xs)) (drop (length xs - place / 8) ns),
      length-take (length ns) (drop (place / 8) xs),
      length-drop (place / 8) xs,
      length-drop (length xs - place / 8) ns,
    )

-- what comes of a walk over the array is what the contract says
agree : (k : End) (bs : Bits) (place : ℕ) (xs ns : List ℕ) → place % 8 + length bs ≤ length ns * 8 → length ns ≤ 65536
    → cond (ltb 65536 (length xs)) (keep Long xs) (after_near (answer k) (place % 8 + length bs) (place / 8) (put (lent xs place ns) (place % 8) bs) xs)
    ≡ cond (ltb 65536 (length xs)) (keep Long xs) (after_walk k bs place xs)
agree (refused r) bs place xs ns m l = refl
agree done bs place xs ns m l = rw (le-ltb 65536 (length near) (omega (arith, n)), le-ltb (length near * 8) (place % 8 + length bs) (omega (arith, n)), e, c) (go (ltb 65536 (length xs)) (ltb (length xs * 8) (place + length bs)) refl refl)
  where
    e : place / 8 * 8 + (place % 8 + length bs) ≡ place + length bs
    e = omega arith

    c : place / 8 + whole_bytes (place % 8 + length bs) ≡ whole_bytes (place + length bs)
    c = omega arith

    near : List ℕ
    near = put (lent xs place ns) (place % 8) bs

    n : length near ≡ length ns
    n = length-put (lent xs place ns) (place % 8) bs ∙ lent_length xs place ns

    stands : List ℕ
    stands = take (place / 8) xs ++ (take (whole_bytes (place % 8 + length bs)) (put (lent xs place ns) (place % 8) bs) ++ drop (whole_bytes (place % 8 + length bs)) (drop (place / 8) xs))

    go : (t u : Bool) → ltb 65536 (length xs) ≡ t → ltb (length xs * 8) (place + length bs) ≡ u
        → cond t (keep Long xs) (cond u (keep (Short (whole_bytes (place + length bs))) xs) (record { answer = Ok (place + length bs); bytes = stands }))
        ≡ cond t (keep Long xs) (cond u (keep (Short (whole_bytes (place + length bs))) xs) (record { answer = Ok (place + length bs); bytes = put xs place bs }))
    go true u h l = refl
    go false true h l = refl
    go false false h l =
        ap (λ (ys : List ℕ). record { answer = Ok (place + length bs); bytes = ys }) (back xs ns place bs (ltb-false 65536 (length xs) h) (ltb-false (length xs * 8) (place + length bs) l) m)

-- One walk of a part, over the array, and what comes of it: ms is what the array holds then.
module _ {n : ℕ} {w : Walk} (xs : List ℕ) (place : ℕ) {c d : BitWriter} {s : Step} (g : Walked w c d s) (b : c.at ≡ place % 8) (m : c.out.now ≡ lent xs place (replicate n 0)) (F : Near n w) where
  at-end : d.at ≡ place % 8 + length (run w).bits
  at-end = let p : d.at ≡ forward (place % 8) (length (run w).bits) = rw b at (walked_to g) in omega (arith, p, bounded w, F.most, F.size)

  pub once : {a : Answer} {ys ms : List ℕ} → Settles s d.at place ms xs a ys → ms ≡ d.out.now → Writes w place xs a ys
  unfolding settled written
  once {ms = ms} (settles p q) l =
      let e = agree (run w).end (run w).bits place xs (replicate n 0) (omega (arith, bounded w, F.most, length-replicate {A = ℕ} n 0)) (omega (arith, F.size, length-replicate {A = ℕ} n 0)) in
      let f : settled s d.at place ms xs ≡ written w place xs = rw (l, bytes g, m, answered g, b, at-end) e in
      writes (p ∙ ap (λ (u : Written). u.answer) f) (q ∙ ap (λ (u : Written). u.bytes) f)
