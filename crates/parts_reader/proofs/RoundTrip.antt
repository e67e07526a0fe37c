-- Over and back, of any part's table: what was written is read, and what was read is written again.
use mathlib.Core.Path.{◌≡◌, refl, sym, ap, subst, ◌∙◌}
use mathlib.Core.List.{List, ◌++◌}
use mathlib.Core.Bool.{Bool, true, false, cond}
use Prim.Native.Nat.{ℕ, ◌+◌, ◌-◌, ◌*◌, ◌≤◌}
use native.Mathlib.Omega.{arith}
use borrow.Author.Tests.{le-ltb, ltb-false}
use lib.Dec.{ltb}
use lib.ListN.{length, length-append, take, drop}
use lib.Seq.{take-append_seam, drop-append_seam}
use Rattle.bits.specs.Bits.{Bits, put, from}
use Rattle.bits.specs.Walk.{run}
use Rattle.bits.specs.Codec.{Codec, Got, got, stop}
use Rattle.bits.specs.Lawful.{loose, Lawful}
use Rattle.bits.specs.Written.{Answer, Written}
use Rattle.std.specs.Prelude.{Ok, Err}
use Rattle.bits.specs.declared.answer.Refusal.TheVariants.{Ends, Long}
use Rattle.bits.proofs.Places.{end_is, length_from, from-drop, put_same}
use Rattle.bits.proofs.Storing.{length-put}
use Rattle.parts.specs.Written.{written, Writes, writes}
use Rattle.parts.proofs.Writing as writing
use Rattle.parts.proofs.Writing.{room}
use Rattle.parts_reader.specs.Reading.{ended, read_part}
use Rattle.parts_reader.specs.Again.{Again, Rewrites, rewrites}
use Rattle.parts_reader.specs.Refusals.{OnlyEnds}
use Rattle.parts_reader.specs.OverAndBack.{Back, Over, OverAndBack}
use Rattle.parts_reader.proofs.Telling.{inner}
use Rattle.parts_reader.proofs.Refusing.{too_long, ends_only}

-- What the writer of a table has written is read at its place: what was coded, up to the same bit, whatever stands before and behind.
back_read : {A : Type 0} {c : Codec A} → Lawful loose c → (a : A) (place : ℕ) (xs ys : List ℕ) (n : ℕ) → Writes (c.enc a) place xs (Ok n) ys → read_part c place ys ≡ Ok (c.coded a, n)
back_read {c = c} C a place xs ys n g =
    let r = room (c.enc a) place xs ys n g in
    let l : length ys ≡ length xs = rw r.content (length-put xs place (run (c.enc a)).bits) in
    inner ys place c (omega (arith, r.few)) (omega (arith, r.few, r.inside, end_is xs)) ∙ ap (ended ys) (writing.reads_back C a place xs ys n g)
    ∙ ap (λ (k : ℕ). Ok (c.coded a, k)) (omega (arith, l, r.few, r.inside, r.place_is, length_from xs n, end_is xs))

module _ {A : Type 0} {R : Bits → Bits → Type 0} {c : Codec A} (C : Rewrites R c) (place : ℕ) (xs : List ℕ) where
  again-of : Rewrites R c → (bs : Bits) (a : A) (rest : Bits) → c.dec bs ≡ got a rest → Again R c bs a rest
  again-of (rewrites h) = h

  back-written : (a : A) (q : ℕ) → read_part c place xs ≡ Ok (a, q) → Back R c place xs a q
  unfolding read_part
  back-written a q e = go (ltb 65536 (length xs)) refl (ltb (length xs * 8) place) refl e
    where
      back : length xs ≤ 65536 → place ≤ length xs * 8 → (rest : Bits) → c.dec (from xs place) ≡ got a rest → q ≡ length xs * 8 - length rest → Back R c place xs a q
      back h l rest d n =
          let g = again-of C (from xs place) a rest d in
          let m : length g.front + length rest ≡ length xs * 8 - place = sym (length-append g.front rest) ∙ ap length g.taken ∙ length_from xs place ∙ (omega (arith, end_is xs)) in
          let b : q ≡ place + length g.front = omega (arith, n, m) in
          let r : rest ≡ from xs q = sym (drop-append_seam g.front rest) ∙ ap (drop (length g.front)) g.taken ∙ sym (from-drop xs place (length g.front)) ∙ ap (from xs) (sym b) in
          record {
            few = h;
            front = g.front;
            again = g.again;
            stood = sym g.taken ∙ ap (λ (bs : Bits). g.front ++ bs) r;
            behind = b;
            inside = omega (arith, n);
            writes = g.writes;
            alike = g.alike;
            all = g.all;
          }

      read : length xs ≤ 65536 → place ≤ length xs * 8 → (g : Got A) → c.dec (from xs place) ≡ g → ended xs g ≡ Ok (a, q) → Back R c place xs a q
      read h l (got b rest) d v =
          let w : ◌≡◌ {A = A × ℕ} (b, length xs * 8 - length rest) (a, q) = cc in
          back h l rest (d ∙ ap (λ (x : A × ℕ). got x.0 rest) w) (ap (λ (x : A × ℕ). x.1) (sym w))
      read h l (stop y) d v = cc

      go : (t : Bool) → ltb 65536 (length xs) ≡ t → (u : Bool) → ltb (length xs * 8) place ≡ u → cond t (Err Long) (cond u (Err Ends) (ended xs (c.dec (from xs place)))) ≡ Ok (a, q) → Back R c place xs a q
      go true p u w h = cc
      go false p true w h = cc
      go false p false w h = read (ltb-false 65536 (length xs) p) (ltb-false (length xs * 8) place w) (c.dec (from xs place)) refl h

-- of any table that keeps the laws
pub over : {A : Type 0} (c : Codec A) → Lawful loose c → OnlyEnds c → Over c
over c L E = record { too_long = too_long c; ends = λ place xs h e. ends_only c place xs E h e; reads_back = back_read L }

pub over_and_back : {A : Type 0} {R : Bits → Bits → Type 0} (c : Codec A) → Lawful loose c → Rewrites R c → OnlyEnds c → OverAndBack R c
over_and_back c L W E = record { over = over c L E; writes_back = back-written W }

-- What follows of a value that was read.
module _ {A : Type 0} {R : Bits → Bits → Type 0} {c : Codec A} {place : ℕ} {xs : List ℕ} {a : A} {q : ℕ} (B : Back R c place xs a q) where
  -- wherever there is room for it
  pub written-again : {at : ℕ} {zs ys : List ℕ} {r : Answer} → length zs ≤ 65536 → at + length B.again ≤ length zs * 8 → Writes (c.enc a) at zs r ys → (r ≡ Ok (at + length B.again)) × (ys ≡ put zs at B.again)
  unfolding written
  written-again {at} {zs} h l (writes p b) =
      let e : written (c.enc a) at zs ≡ record { answer = Ok (at + length B.again); bytes = put zs at B.again } = rw (B.writes, le-ltb 65536 (length zs) h, le-ltb (length zs * 8) (at + length B.again) l) refl in
      (p ∙ ap (λ (w : Written). w.answer) e, b ∙ ap (λ (w : Written). w.bytes) e)

  -- and read from there, it is the same value
  pub read_again : Lawful loose c → {at : ℕ} {zs ys : List ℕ} {r : Answer} → length zs ≤ 65536 → at + length B.again ≤ length zs * 8 → Writes (c.enc a) at zs r ys → read_part c at ys ≡ Ok (a, at + length B.again)
  read_again C {at} {zs} {ys} h l g =
      let w = written-again h l g in
      let e = subst (λ (r : Answer). Writes (c.enc a) at zs r ys) w.0 g in
      back_read C a at zs ys (at + length B.again) e ∙ ap (λ (x : A). Ok (x, at + length B.again)) B.all

  -- where it is the same bits, at its own place all bytes are as they were
  pub same_bytes : B.again ≡ B.front → {ys : List ℕ} {r : Answer} → Writes (c.enc a) place xs r ys → (r ≡ Ok q) × (ys ≡ xs)
  same_bytes e {ys} g =
      let w = written-again B.few (omega (arith, ap length e, B.behind, B.inside)) g in
      let t : take (length B.front) (from xs place) ≡ B.front = ap (take (length B.front)) B.stood ∙ take-append_seam B.front (from xs q) in (
        w.0 ∙ ap Ok (omega (arith, ap length e, B.behind)),
        w.1 ∙ ap (put xs place) (e ∙ sym t) ∙ put_same xs place (length B.front),
      )
