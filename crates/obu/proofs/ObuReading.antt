-- How a function that reads a whole OBU meets its table: header, size, payload and tail read one behind another, and the first refusal.
use mathlib.Core.Path.{◌≡◌, refl, ◌∙◌, ap}
use mathlib.Core.List.{List, []}
use Prim.Native.Nat.{ℕ, ◌<◌, ◌≤◌}
use native.Mathlib.Omega.{arith}
use lib.ListN.{length}
use lib.Seq.{take_all}
use borrow.Author.Tests.{lt-ltb, le-ltb}
use Rattle.std.specs.Prelude.{Ok, Err}
use Rattle.bits.specs.Bits.{bits_of, from, reached}
use Rattle.bits.specs.Codec.{Codec, got, stop, nil}
use Rattle.bits.specs.Answers.{found, Reads}
use Rattle.bits.specs.declared.answer.Refusal.{Refusal}
use Rattle.bits.specs.declared.answer.Refusal.TheVariants.{Long}
use Rattle.reader.specs.declared.BitReader.{BitReader}
use Rattle.reader.specs.Reading.{Said}
use Rattle.reader.proofs.Reading.{reads_at, kept}
use Rattle.obu.specs.declared.header.ObuHeader.{ObuHeader}
use Rattle.obu.specs.Header.{obu_header}
use Rattle.obu.specs.Framing.{read_size, read_trailing}
use Rattle.obu.specs.Obu.{read_obu, obu}
use Rattle.obu.specs.Demand3.{read}
use Rattle.obu.proofs.Frames.{tail-end}

-- every bit of a slice that is not too long has a place
from_start : (xs : List ℕ) → length xs ≤ 65536 → from xs 0 ≡ bits_of xs
unfolding from reached
from_start xs h = ap bits_of (take_all 1152921504606846976 xs (omega arith))

pub read_long : {A : Type 0} (c : Codec A) (xs : List ℕ) → 65536 < length xs → read c xs ≡ stop Long
unfolding read
read_long c xs h = rw (lt-ltb 65536 (length xs) h)

module _ (t : ℕ) {A : Type 0} (p : Codec A) (s : BitReader) (first : s.at ≡ 0) (few : length s.bytes.now ≤ 65536) where
  opened : read (obu t p) s.bytes.now ≡ read_obu t p (from s.bytes.now s.at)
  unfolding read obu
  opened = rw (le-ltb 65536 (length s.bytes.now) few, first, from_start s.bytes.now few)

  module _ {a : BitReader} where
    pub no_header : {y : Refusal} → Said (obu_header t).dec s a (Err y) → read (obu t p) s.bytes.now ≡ stop y
    unfolding read_obu found
    no_header H = opened ∙ rw (reads_at s H refl).finds

    module _ {h : ObuHeader} (H : Said (obu_header t).dec s a (Ok h)) {b : BitReader} where
      pub no_size : {y : Refusal} → Said (read_size h.has_size_field) a b (Err y) → read (obu t p) s.bytes.now ≡ stop y
      unfolding read_obu found
      no_size Z = opened ∙ rw ((reads_at s H refl).finds, (reads_at s Z (kept H)).finds)

      module _ (Z : Said (read_size h.has_size_field) a b (Ok nil)) where
        here : b.bytes ≡ s.bytes
        here = kept Z ∙ kept H

        pub no_payload : {y : Refusal} → Reads p.dec b.bytes.now b.at (Err y) → read (obu t p) s.bytes.now ≡ stop y
        unfolding read_obu found
        no_payload r = opened ∙ rw ((reads_at s H refl).finds, (reads_at s Z (kept H)).finds, (rw here at r).finds)

        module _ {v : A} {c : BitReader} (same : c.bytes ≡ b.bytes) (P : Reads p.dec b.bytes.now b.at (Ok (v, c.at))) {d : BitReader} where
          pub no_tail : {y : Refusal} → Said read_trailing c d (Err y) → read (obu t p) s.bytes.now ≡ stop y
          unfolding read_obu found
          no_tail T = opened ∙ rw ((reads_at s H refl).finds, (reads_at s Z (kept H)).finds, (rw here at P).finds, (reads_at s T (same ∙ here)).finds)

          pub all_read : Said read_trailing c d (Ok nil) → read (obu t p) s.bytes.now ≡ got (h, v) []
          unfolding read_obu found
          all_read T =
              let r = (reads_at s T (same ∙ here)).finds in
              opened ∙ rw ((reads_at s H refl).finds, (reads_at s Z (kept H)).finds, (rw here at P).finds, r) (ap (got (h, v)) (tail-end _ r))
