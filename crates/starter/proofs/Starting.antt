-- The record to start from: written where its size and depth are a video's, and refused where they are not.
use mathlib.Core.Path.{◌≡◌, refl, ap, ◌∙◌}
use mathlib.Core.List.{List}
use mathlib.Core.Logic.{◌⊎◌, inl, inr}
use Prim.Native.Nat.{ℕ, zero, suc, ◌^◌, ◌≤◌, ◌<◌}
use native.Mathlib.Omega.{arith}
use lib.ListN.{length, get_or, replicate}
use Rattle.bits.specs.Elements.{frame_width_bits_minus_1, frame_height_bits_minus_1, twelve_bit}
use Rattle.bits.specs.declared.answer.Refusal.{Refusal}
use Rattle.bits.specs.declared.answer.Refusal.TheVariants.{Inconsistent, Unfit}
use Rattle.bits.specs.Written.{Answer}
use Rattle.std.specs.Prelude.{Result, Ok, Err}
use Rattle.bits.specs.Codec.{Nil, nil}
use Rattle.obu.specs.Writer.{Writes}
use Rattle.obu.specs.Demand3.{Consistent}
use Rattle.sequence.specs.declared.record.SequenceHeaderObu.{SequenceHeaderObu}
use Rattle.sequence.specs.Points.{no_point}
use Rattle.sequence.specs.Sequence.{sequence_header}
use Rattle.sequence_reader.specs.Layouts.{numbers_of, record_of}
use Rattle.sequence_reader.specs.Reader as R
use Rattle.sequence_reader.specs.Reader.{Answers}
use Rattle.sequence_reader.proofs.Demand.{WrittenAs, consistent_is_written, inconsistent_is_refused}
use Rattle.sequence_reader.proofs.Numbering.{record_back}
use Rattle.starter.specs.Video.{minus_1, video}
use Rattle.starter.proofs.Ends as ends
use Rattle.starter.proofs.Ends.{Depth}

-- a width or height that a header has room for; and one, of 32 bits, for which it has none
abbrev pub Size : ℕ → Type 0
Size size = (1 ≤ size) × (size ≤ 65536)

abbrev pub NoSize : ℕ → Type 0
NoSize size = (size < 2 ^ 32) × ((size ≡ 0) ⊎ (65536 < size))

small : (size : ℕ) → Size size → minus_1 size < 65536
small size (p, q) = omega arith

large : (size : ℕ) → NoSize size → 65536 ≤ minus_1 size
large size (p, inl e) = omega arith
large size (p, inr l) = omega arith

all_same : {A : Type 0} (z : A) (n i : ℕ) → get_or (replicate n z) i z ≡ z
all_same z zero i = refl
all_same z (suc n) zero = refl
all_same z (suc n) (suc i) = all_same z n i

-- the writer refuses the record, and no byte changes
abbrev pub Refuses : SequenceHeaderObu → Refusal → Type 0
Refuses v why = (buffer : List ℕ) → length buffer ≤ 65536 → (w : Answer) (ys : List ℕ) → Writes (sequence_header.enc v) buffer w ys → (w ≡ Err why) × (ys ≡ buffer)

-- the reader reads the bytes as the record, whose numbers it leaves
abbrev pub Reads : List ℕ → SequenceHeaderObu → Type 0
Reads es v = (ns : List ℕ) (o : Result Nil Refusal) (ms : List ℕ) → Answers es ns o ms → R.answer o ms ≡ R.answer (Ok nil) (numbers_of v)

module _ (width height depth : ℕ) where
  -- The record's numbers are those of no other record.
  pub record_is_video : record_of (numbers_of (video width height depth)) ≡ video width height depth
  unfolding video
  record_is_video = record_back (video width height depth) (record { places = refl; beyond = λ i h. beyond i (omega arith) })
    where
      beyond : (i : ℕ) → 1 ≤ i → get_or (video width height depth).operating_points i no_point ≡ no_point
      beyond zero h = absurd (omega arith)
      beyond (suc i) h = all_same no_point 31 i

  -- From 1 by 1 to 65,536 by 65,536, at 8, 10 or 12 bits, it is consistent ..
  pub video_is_consistent : Size width → Size height → Depth depth → Consistent sequence_header (video width height depth)
  video_is_consistent w h d = ends.whole width height depth (ends.depth width height depth d (ends.size-done width height depth (small width w) (small height h)))

  -- .. and so it is written, and read back as it was.
  pub video_is_written : Size width → Size height → Depth depth → (es : List ℕ) × WrittenAs (video width height depth) es × Reads es (video width height depth)
  video_is_written w h d =
      let g = consistent_is_written (video width height depth) (video_is_consistent w h d) in
      (g.0, g.1, λ ns o ms a. g.1.read_back ns a ∙ ap (λ (v : SequenceHeaderObu). R.answer (Ok nil) (numbers_of v)) (ends.all_coded width height depth d))

  -- Any other width is refused by its bit count, as (2, 21, 0) with a width of 5; else any other height, as (2, 22, 0) with 5; else any other depth, as (1, 37, 0).
  pub width_is_refused : NoSize width → Refuses (video width height depth) (Unfit frame_width_bits_minus_1 0 5)
  width_is_refused w buffer few _ _ p =
      inconsistent_is_refused _ _ (ends.refused-whole width height depth _ (ends.no_size width height depth _ (ends.size-wide width height depth (large width w)))) buffer few p

  pub height_is_refused : Size width → NoSize height → Refuses (video width height depth) (Unfit frame_height_bits_minus_1 0 5)
  height_is_refused w h buffer few _ _ p =
      inconsistent_is_refused _ _ (ends.refused-whole width height depth _ (ends.no_size width height depth _ (ends.size_high width height depth (small width w) (large height h)))) buffer few p

  pub depth_is_refused : Size width → Size height → (Depth depth → ⊥) → Refuses (video width height depth) (Inconsistent twelve_bit 0)
  depth_is_refused w h d buffer few _ _ p =
      inconsistent_is_refused _ _ (ends.refused-whole width height depth _ (ends.no_depth width height depth d (ends.size-done width height depth (small width w) (small height h)))) buffer few p
