use mathlib.Core.Path.{◌≡◌, sym, ◌∙◌}
use mathlib.Core.List.{List, ◌++◌, append-nil}
use Prim.Native.Nat.{ℕ, ◌+◌, ◌-◌, ◌*◌, ◌/◌, ◌≤◌, ◌<◌}
use native.Mathlib.Omega.{arith}
use lib.ListN.{length, take, drop, length-take, length-drop}
use lib.Seq.{take-length, drop-length, length-take-le}
use borrow.Author.Tests.{lt-ltb, le-ltb}
use borrow.Rule.Slice.PartMut.{put_mid}
use Rattle.std.specs.Prelude.{Result, Ok, Err}
use Rattle.std.specs.Result.{IsErrAnd, result_from_control_flow}
use Rattle.std.proofs.Common.{Continue, Break}
use Rattle.bits.specs.Written.{Answer, whole_bytes}
use Rattle.bits.specs.declared.answer.Refusal.{Refusal}
use Rattle.bits.specs.declared.answer.Refusal.TheVariants.{Short, Long}
use Rattle.bits.proofs.Passing.{taken, broke, passed}
use Rattle.parts.specs.Settled.{settled, Settles, settles}
use Rattle.parts.proofs.place.settle.Goals as goal

-- the array has the bytes that the walk reached
count : (n : ℕ) (ns : List ℕ) → n ≤ length ns * 8 → (n + 7) / 8 ≡ length (take ((n + 7) / 8) ns)
count n ns h = sym (length-take-le ((n + 7) / 8) ns (omega arith))

-- its bytes have room in the slice
room : (place n : ℕ) (ns xs : List ℕ) → place / 8 * 8 + n ≤ length xs * 8 → length (take ((n + 7) / 8) ns) ≤ length (take (length xs - place / 8) (drop (place / 8) xs))
room place n ns xs h = omega (arith, length-take ((n + 7) / 8) ns, length-take (length xs - place / 8) (drop (place / 8) xs), length-drop (place / 8) xs)

-- the array's first k bytes, copied over the slice's from the i-th on
copied : (i k : ℕ) (ns xs : List ℕ) {zs : List ℕ} → k ≤ length ns → zs ≡ take k ns ++ drop (length (take k ns)) (take (length xs - i) (drop i xs))
    → put_mid i (length xs - i) xs zs ≡ take i xs ++ (take k ns ++ drop k (drop i xs))
copied i k ns xs {zs} h z =
    let n : length xs - i ≡ length (drop i xs) = sym (length-drop i xs) in
    let y : zs ≡ take k ns ++ drop k (drop i xs) = rw (length-take-le k ns h, n, take-length (drop i xs)) at z in
    rw (n, drop-length (drop i xs), y, append-nil)

module _ (s : Result Unit Refusal) (at place : ℕ) (ns xs : List ℕ) where
  long : 65536 < length xs → Settles s at place ns xs (Err Long) xs
  unfolding settled
  long h = settles (rw (lt-ltb 65536 (length xs) h)) (rw (lt-ltb 65536 (length xs) h))

  module _ (h : length xs ≤ 65536) {k : _} (e : s ≡ result_from_control_flow k) where
    none : {r : Answer} {d : _} → k ≡ Break d → IsErrAnd r (λ y. y ≡ d.0) → Settles s at place ns xs r xs
    unfolding settled
    none {r} {d} b z = let q = broke k e b in settles (passed d.0 r z ∙ rw (le-ltb 65536 (length xs) h, q)) (rw (le-ltb 65536 (length xs) h, q))

    module _ {x : Unit {0}} (g : k ≡ Continue x) where
      wide : 65536 < length ns → Settles s at place ns xs (Err Long) xs
      unfolding settled
      wide l = let q = taken k e g in settles (rw (le-ltb 65536 (length xs) h, q, lt-ltb 65536 (length ns) l)) (rw (le-ltb 65536 (length xs) h, q, lt-ltb 65536 (length ns) l))

      module _ (l : length ns ≤ 65536) where
        past : length ns * 8 < at → Settles s at place ns xs (Err Long) xs
        unfolding settled
        past m =
            let q = taken k e g in
            let f = lt-ltb (length ns * 8) at m in
            settles (rw (le-ltb 65536 (length xs) h, q, le-ltb 65536 (length ns) l, f)) (rw (le-ltb 65536 (length xs) h, q, le-ltb 65536 (length ns) l, f))

        module _ (m : at ≤ length ns * 8) where
          short : length xs * 8 < place / 8 * 8 + at → Settles s at place ns xs (Err (Short (place / 8 + (at + 7) / 8))) xs
          unfolding settled
          short r =
              let q = taken k e g in
              let f = le-ltb (length ns * 8) at m in
              let i = lt-ltb (length xs * 8) (place / 8 * 8 + at) r in
              settles (rw (le-ltb 65536 (length xs) h, q, le-ltb 65536 (length ns) l, f, i)) (rw (le-ltb 65536 (length xs) h, q, le-ltb 65536 (length ns) l, f, i))

          done : {zs : List ℕ} → place / 8 * 8 + at ≤ length xs * 8
              → zs ≡ take (whole_bytes at) ns ++ drop (length (take (whole_bytes at) ns)) (take (length xs - place / 8) (drop (place / 8) xs))
              → Settles s at place ns xs (Ok (place / 8 * 8 + at)) (put_mid (place / 8) (length xs - place / 8) xs zs)
          unfolding settled
          done r z =
              let q = taken k e g in
              let f = le-ltb (length ns * 8) at m in
              let i = le-ltb (length xs * 8) (place / 8 * 8 + at) r in
              settles (rw (le-ltb 65536 (length xs) h, q, le-ltb 65536 (length ns) l, f, i)) (rw (le-ltb 65536 (length xs) h, q, le-ltb 65536 (length ns) l, f, i) (copied (place / 8) (whole_bytes at) ns xs (omega arith) z))

pub returns-then-len-gt65536 : goal.returns-then-len-gt65536
returns-then-len-gt65536 c = search long

pub returns-in_err-walk : goal.returns-in_err-walk
returns-in_err-walk c = search none

pub returns-then-room-gt65536 : goal.returns-then-room-gt65536
returns-then-room-gt65536 c = search wide

pub returns-then-room-at : goal.returns-then-room-at
returns-then-room-at c = search past

pub returns-then-len-end : goal.returns-then-len-end
returns-then-len-end c = search short

pub copy-requires : goal.copy-requires
copy-requires c = search room

pub returns : goal.returns
returns c = search done
