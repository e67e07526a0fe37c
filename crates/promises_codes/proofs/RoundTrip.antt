-- What is written reads back, and what is read is written by the same bits: for any table that keeps the laws, and so for the four codes at every width.
use mathlib.Core.Path.{◌≡◌, refl, sym, ap, ◌∙◌}
use mathlib.Core.List.{List, ◌++◌}
use mathlib.Core.Bool.{Bool}
use Prim.Native.Nat.{ℕ, ◌+◌, ◌-◌, ◌≤◌, ◌<◌, max, min}
use native.Mathlib.Omega.{arith}
use lib.IntN.{ℤ}
use lib.ListN.{length, take, length-append}
use lib.Seq.{take_at}
use Rattle.std.specs.Prelude.{Result, Ok, Err}
use Rattle.std.specs.Result.{result_unwrap_or}
use Rattle.bits.specs.Bits.{Bits, put, from, end, limit}
use Rattle.bits.specs.Walk.{unsigned, mark, Out, wrote, run}
use Rattle.bits.specs.Codec.{Codec, f, flag}
use Rattle.bits.specs.Codes.{uvlc, su, leb128}
use Rattle.bits.specs.Lawful.{Grade, strict, Lawful, Least}
use Rattle.bits.specs.Answers.{found, Moved, Reads}
use Rattle.bits.specs.declared.answer.Refusal.{Refusal}
use Rattle.bits.proofs.Leaves.{f_law, flag_law}
use Rattle.bits.proofs.CodeLaws.{uvlc_law, su_law, leb_law, leb_id}
use Rattle.bits.proofs.Places.{end_is, end-put, put_front, put-behind, put_same, length_from}
use Rattle.bits.proofs.Reading.{reads_only}
use Rattle.writer.specs.Walked.{forward, answer, Walked, walked}
use Rattle.writer.specs.declared.BitWriter.{BitWriter}
use Rattle.writer.proofs.Walking.{went}
use Rattle.reader.specs.Reading.{placed, Said}
use Rattle.reader.specs.declared.BitReader.{BitReader}
use Rattle.reader.proofs.Reading.{reads}

-- an answer with its place, once both are known
placed_is : {A : Type 0} (g : Result A Refusal) (q : ℕ) {a : A} {p : ℕ} → placed g q ≡ Ok (a, p) → (g ≡ Ok a) × (q ≡ p)
placed_is (Ok a) q h = let e = ap (λ (r : Result _ Refusal). result_unwrap_or r (a, q)) h in (ap (λ (z : _). Ok z.0) e, ap (λ (z : _). z.1) e)
placed_is (Err y) q h = absurd (let z : ◌≡◌ {A = ℕ} 0 1 = cc in omega arith)

-- A reader begins where a writer did, over the bytes that it left.
pub record Behind (w v : BitWriter) (r : BitReader) : Type 0 where
  pub same_bytes : r.bytes.now ≡ v.out.now
  pub same_place : r.at ≡ w.at

-- A writer begins where a reader did, over the same bytes.
pub record Over (r : BitReader) (w : BitWriter) : Type 0 where
  pub same_bytes : w.out.now ≡ r.bytes.now
  pub same_place : w.at ≡ r.at

-- the bits between two places
abbrev pub between : List ℕ → ℕ → ℕ → Bits
between xs p q = take (q - p) (from xs p)

front_is : (xs : List ℕ) (p q : ℕ) (front : Bits) → max q (end xs) ≡ max p (end xs) → front ++ from xs q ≡ from xs p
    → (front ≡ between xs p q) × (p + length front ≡ q)
front_is xs p q front m e =
    let l : length front + (end xs - q) ≡ end xs - p =
    ap (λ (n : ℕ). length front + n) (sym (length_from xs q)) ∙ sym (length-append front (from xs q)) ∙ ap length e ∙ length_from xs p in
    let n : length front ≡ q - p = omega arith in
    (sym (ap (take (q - p)) (sym e) ∙ take_at front (from xs q) (q - p) n), omega arith)

module _ {A : Type 0} {g : Grade} (t : Codec A) (T : Lawful g t) where
  -- Written, then read: a value that was written with room enough reads back as what it codes, and the reader comes to the writer's place.
  pub reads_back : (a : A) {w v : BitWriter} {r n : BitReader} {h : Result A Refusal}
      → Walked (t.enc a) w v (Ok tt) → v.at ≤ end w.out.now → v.at < limit → Behind w v r → Said t.dec r n h → (h ≡ Ok (t.coded a)) × (n.at ≡ v.at)
  unfolding found Moved
  reads_back a {w} {v} {r} {n} {h} (walked s i b q) l m B x =
      let o : Bits = (run (t.enc a)).bits in
      let e : run (t.enc a) ≡ wrote o = went {a = w} {b = v} (walked s i b q) refl in
      let xs : List ℕ = w.out.now in
      let p : v.at ≡ w.at + length o = omega (arith, i, end_is xs) in
      let c : from v.out.now w.at ≡ o ++ from xs (w.at + length o) = ap (λ (zs : List ℕ). from zs w.at) b ∙ put_front xs w.at o (omega arith) in
      let k : from xs (w.at + length o) ≡ from v.out.now v.at = sym (put-behind xs w.at o) ∙ (λ i. from (sym b i) (sym p i)) in
      let y : Reads t.dec r.bytes.now r.at (Ok (t.coded a, v.at)) = rw (B.same_bytes, B.same_place) (record {
        finds = ap t.dec (c ∙ ap (λ (z : Bits). o ++ z) k) ∙ T.complete a o (from v.out.now v.at) (T.own a o e);
        moves = rw (b, end-put xs w.at o) (omega arith);
      }) in
      placed_is h n.at (reads_only (placed h n.at) (Ok (t.coded a, v.at)) (reads x) y)

  -- what was read is spelled by the bits that were passed
  pub spelled : {a : A} {r n : BitReader} → Said t.dec r n (Ok a) → (t.spells a (between r.bytes.now r.at n.at)) × (r.at + length (between r.bytes.now r.at n.at) ≡ n.at)
  unfolding found Moved
  spelled {a = a} {r} {n} s =
      let d = reads s in
      let x = T.sound (from r.bytes.now r.at) a (from r.bytes.now n.at) d.finds in
      let y = front_is r.bytes.now r.at n.at x.0 d.moves x.2 in
      (rw y.0 at x.1, rw (← y.0) y.1)

  -- Read, then written: where a value has one spelling, writing what was read at its place changes nothing, and comes to the reader's place.
  pub writes_back : ((a : A) (bs : Bits) → t.spells a bs → run (t.enc a) ≡ wrote bs) → {a : A} {r n : BitReader} {w v : BitWriter} {s : Result Unit Refusal}
      → Said t.dec r n (Ok a) → n.at < limit → Over r w → Walked (t.enc a) w v s → (s ≡ Ok tt) × (v.at ≡ n.at) × (v.out.now ≡ w.out.now)
  writes_back one {a = a} {r} {n} {w} {v} x l O (walked p i b q) =
      let y = spelled x in
      let o : Bits = between r.bytes.now r.at n.at in
      let e = one a o y.0 in
      let k : forward w.at (length o) ≡ n.at = rw O.same_place (omega (arith, y.1)) in
      let z : put w.out.now w.at o ≡ w.out.now = rw (O.same_bytes, O.same_place) (put_same r.bytes.now r.at (n.at - r.at)) in
      (p ∙ ap (λ (m : Out). answer m.end) e, i ∙ ap (λ (m : Out). forward w.at (length m.bits)) e ∙ k, b ∙ ap (λ (m : Out). put w.out.now w.at m.bits) e ∙ z)

-- and where it has many, the shortest is written
pub writes_least : {A : Type 0} (t : Codec A) → Lawful strict t → {a : A} {r n : BitReader}
    → Said t.dec r n (Ok a) → (es : Bits) × (run (t.enc a) ≡ wrote es) × Least es (between r.bytes.now r.at n.at)
writes_least t T {a = a} {r} {n} x = T.least tt a (between r.bytes.now r.at n.at) (spelled t T x).0

-- The codes that have one spelling.
f_one : (n e i v : ℕ) (bs : Bits) → (f n e i).spells v bs → run ((f n e i).enc v) ≡ wrote bs
unfolding f
f_one n e i v bs s = s

su_one : (n e i : ℕ) (z : ℤ) (bs : Bits) → (su n e i).spells z bs → run ((su n e i).enc z) ≡ wrote bs
unfolding su
su_one n e i z bs s = s

-- The four codes, in the words of their functions' contracts: a writer that answered Ok, inside the bytes, and a reader at the place where it began.
module _ {w v : BitWriter} {r n : BitReader} (room : v.at ≤ end w.out.now) (near : v.at < limit) (B : Behind w v r) where
  pub f_reads_back : (m e i x : ℕ) {h : Result ℕ Refusal} → m ≤ 32 → Walked (unsigned m x e i) w v (Ok tt) → Said (f (min m 32) 0 0).dec r n h → (h ≡ Ok x) × (n.at ≡ v.at)
  unfolding f
  f_reads_back m e i x l g s = let k : min m 32 ≡ m = omega arith in reads_back (f m e i) (f_law {g = strict} m e i) x g room near B (rw k at s)

  pub flag_reads_back : (b : Bool) {h : Result Bool Refusal} → Walked (mark b) w v (Ok tt) → Said flag.dec r n h → (h ≡ Ok b) × (n.at ≡ v.at)
  unfolding flag
  flag_reads_back b g s = reads_back flag (flag_law {g = strict}) b g room near B s

  pub su_reads_back : (m e i : ℕ) (z : ℤ) {h : Result ℤ Refusal} → Walked ((su (min m 32) e i).enc z) w v (Ok tt) → Said (su (min m 32) 0 0).dec r n h → (h ≡ Ok z) × (n.at ≡ v.at)
  unfolding su
  su_reads_back m e i z g s = reads_back (su (min m 32) e i) (su_law {g = strict} (min m 32) e i) z g room near B s

  pub uvlc_reads_back : (e i x : ℕ) {h : Result ℕ Refusal} → Walked ((uvlc e i).enc x) w v (Ok tt) → Said (uvlc e i).dec r n h → (h ≡ Ok x) × (n.at ≡ v.at)
  unfolding uvlc
  uvlc_reads_back e i x g s = reads_back (uvlc e i) (uvlc_law {g = strict} e i) x g room near B s

  pub leb128_reads_back : (x : ℕ) {h : Result ℕ Refusal} → Walked ((leb128 8).enc x) w v (Ok tt) → Said (leb128 8).dec r n h → (h ≡ Ok x) × (n.at ≡ v.at)
  leb128_reads_back x g s = let k = reads_back (leb128 8) (leb_law {g = strict} 8) x g room near B s in (k.0 ∙ ap Ok (leb_id 8 x), k.1)

-- A reader that answered a value, and the writer of that value at the place where it began.
module _ {w v : BitWriter} {r n : BitReader} {s : Result Unit Refusal} (near : n.at < limit) (O : Over r w) where
  pub f_writes_back : (m e i x : ℕ) → m ≤ 32 → Said (f (min m 32) 0 0).dec r n (Ok x) → Walked (unsigned m x e i) w v s → (s ≡ Ok tt) × (v.at ≡ n.at) × (v.out.now ≡ w.out.now)
  unfolding f
  f_writes_back m e i x l d g = let k : min m 32 ≡ m = omega arith in writes_back (f m e i) (f_law {g = strict} m e i) (f_one m e i) (rw k at d) near O g

  pub flag_writes_back : (b : Bool) → Said flag.dec r n (Ok b) → Walked (mark b) w v s → (s ≡ Ok tt) × (v.at ≡ n.at) × (v.out.now ≡ w.out.now)
  unfolding flag
  flag_writes_back b d g = writes_back flag (flag_law {g = strict}) (λ a bs h. h) d near O g

  pub su_writes_back : (m e i : ℕ) (z : ℤ) → Said (su (min m 32) 0 0).dec r n (Ok z) → Walked ((su (min m 32) e i).enc z) w v s → (s ≡ Ok tt) × (v.at ≡ n.at) × (v.out.now ≡ w.out.now)
  unfolding su
  su_writes_back m e i z d g = writes_back (su (min m 32) e i) (su_law {g = strict} (min m 32) e i) (su_one (min m 32) e i) d near O g

  pub uvlc_writes_back : (e i x : ℕ) → Said (uvlc e i).dec r n (Ok x) → Walked ((uvlc e i).enc x) w v s → (s ≡ Ok tt) × (v.at ≡ n.at) × (v.out.now ≡ w.out.now)
  unfolding uvlc
  uvlc_writes_back e i x d g = writes_back (uvlc e i) (uvlc_law {g = strict} e i) (λ v bs h. h) d near O g

-- A size may be spelled longer than we write it: the bits that its writer stores are those that were read, or fewer by a byte at least.
pub leb128_writes_least : (x : ℕ) {r n : BitReader} → Said (leb128 8).dec r n (Ok x) → (es : Bits) × (run ((leb128 8).enc x) ≡ wrote es) × Least es (between r.bytes.now r.at n.at)
leb128_writes_least x d = writes_least (leb128 8) (leb_law {g = strict} 8) d
