-- The record, field by field.
use mathlib.Core.Path.{◌≡◌, sym, ap, ◌∙◌}
use mathlib.Core.List.{List}
use Prim.Native.Nat.{ℕ, zero, suc, ◌+◌, ◌*◌, ◌<◌, ◌≤◌}
use native.Mathlib.Omega.{arith}
use lib.ListN.{take, get_or}
use lib.Seq.{get_or-take}
use borrow.Author.Tests.{lt-ltb}
use Rattle.bits.specs.Walk.{run}
use Rattle.bits.specs.Codec.{via}
use Rattle.bits.proofs.Laws.{same_coded}
use Rattle.obu.specs.Framing.{framed}
use Rattle.obu.specs.Obu.{obu}
use Rattle.obu.specs.declared.header.ObuHeader.{ObuHeader}
use Rattle.sequence.specs.declared.record.TimingInfo.{TimingInfo}
use Rattle.sequence.specs.declared.record.DecoderModelInfo.{DecoderModelInfo}
use Rattle.sequence.specs.declared.record.OperatingPoint.{OperatingPoint}
use Rattle.sequence.specs.declared.record.ColorConfig.{ColorConfig}
use Rattle.sequence.specs.declared.record.SequenceHeaderObu.{SequenceHeaderObu}
use Rattle.sequence.specs.Points.{no_point}
use Rattle.sequence.specs.Fields.{sequence_out}
use Rattle.sequence.specs.Sequence.{sequence_header}
use Rattle.sequence.proofs.Laws.{sequence_header_obu_law}
use Rattle.sequence.proofs.Unused.{with_points, unused}
use Rattle.fill.specs.Fills as layout
use Rattle.sequence_reader.specs.Layouts as row
use Rattle.sequence_reader.specs.Layouts.{record_of}
use Rattle.numbers.specs.Numbers.{at, flag_at, each}
use Rattle.sequence_reader.specs.Places.{sequence, general, model_present, points, frame_size, max_frame_size, frame_ids, tools, inter_tools, order_tools, hint_tools, motion_tools, hint_bits, filter_tools, film_grain}
use Rattle.sequence_numbers.specs.Groups.{header_of, timing_of, model_of, point_of, color_of, used}
use Rattle.numbers.proofs.Filling.{get_d_each}

-- an item of an array that has a place
place-each : {A M : Type 0} (z : A) (l : ℕ → layout.Layout M A) (n : ℕ) (m : M) (k j i : ℕ) → i < k → j + i < n → get_or ((layout.each z l k j n).get m) i z ≡ (l (j + i)).get m
unfolding layout.each layout.of layout.◌▸◌
place-each z l n m zero j i h u = absurd (omega arith)
place-each z l n m (suc k) j zero h u = let e : j + 0 ≡ j = omega arith in rw (lt-ltb j n (omega arith), e)
place-each z l n m (suc k) j (suc i) h u = let e : j + suc i ≡ suc j + i = omega arith in place-each z l n m k (suc j) i (omega arith) (omega arith) ∙ rw e

-- the walk of a sequence header looks at no point beyond the count
walked_unused : (h : SequenceHeaderObu) (ps qs : List OperatingPoint) → ((i : ℕ) → i < 32 → i ≤ h.operating_points_cnt_minus_1 → get_or ps i no_point ≡ get_or qs i no_point)
    → run (sequence_header.enc (with_points h ps)) ≡ run (sequence_header.enc (with_points h qs))
unfolding sequence_header via obu framed run
walked_unused h ps qs same = rw (same_coded sequence_header_obu_law (sequence_out (with_points h ps)) (sequence_out (with_points h qs)) (ap sequence_out (unused h ps qs same)))

-- the sequence header's record as the code makes it
module _ (xs : List ℕ) where
  abbrev made : ObuHeader → TimingInfo → DecoderModelInfo → List OperatingPoint → ColorConfig → SequenceHeaderObu
  made h t m ps k = record {
    obu_header = h;
    seq_profile = at xs sequence;
    still_picture = flag_at xs (sequence + 1);
    reduced_still_picture_header = flag_at xs (sequence + 2);
    timing_info_present_flag = flag_at xs general;
    timing_info = t;
    decoder_model_info_present_flag = flag_at xs model_present;
    decoder_model_info = m;
    initial_display_delay_present_flag = flag_at xs points;
    operating_points_cnt_minus_1 = at xs (points + 1);
    operating_points = ps;
    frame_width_bits_minus_1 = at xs frame_size;
    frame_height_bits_minus_1 = at xs (frame_size + 1);
    max_frame_width_minus_1 = at xs max_frame_size;
    max_frame_height_minus_1 = at xs (max_frame_size + 1);
    frame_id_numbers_present_flag = flag_at xs frame_ids;
    delta_frame_id_length_minus_2 = at xs (frame_ids + 1);
    additional_frame_id_length_minus_1 = at xs (frame_ids + 2);
    use_128x128_superblock = flag_at xs tools;
    enable_filter_intra = flag_at xs (tools + 1);
    enable_intra_edge_filter = flag_at xs (tools + 2);
    enable_interintra_compound = flag_at xs inter_tools;
    enable_masked_compound = flag_at xs (inter_tools + 1);
    enable_warped_motion = flag_at xs (inter_tools + 2);
    enable_dual_filter = flag_at xs order_tools;
    enable_order_hint = flag_at xs (order_tools + 1);
    enable_jnt_comp = flag_at xs hint_tools;
    enable_ref_frame_mvs = flag_at xs (hint_tools + 1);
    seq_choose_screen_content_tools = flag_at xs motion_tools;
    seq_force_screen_content_tools = at xs (motion_tools + 1);
    seq_choose_integer_mv = flag_at xs (motion_tools + 2);
    seq_force_integer_mv = at xs (motion_tools + 3);
    order_hint_bits_minus_1 = at xs hint_bits;
    order_hint_bits = at xs (hint_bits + 1);
    enable_superres = flag_at xs filter_tools;
    enable_cdef = flag_at xs (filter_tools + 1);
    enable_restoration = flag_at xs (filter_tools + 2);
    color_config = k;
    film_grain_params_present = flag_at xs film_grain;
  }

  -- its walk is that of the numbers given: it looks at the points that are used
  pub record_given : (ps : List OperatingPoint) {h : ObuHeader} {t : TimingInfo} {m : DecoderModelInfo} {k : ColorConfig}
      → h ≡ header_of xs
      → t ≡ timing_of xs
      → m ≡ model_of xs
      → take (used (at xs 19)) ps ≡ each (used (at xs 19)) (point_of xs)
      → k ≡ color_of xs
      → run (sequence_header.enc (made h t m ps k)) ≡ run (sequence_header.enc (record_of xs))
  unfolding record_of layout.of layout.at layout.◌▸◌ layout.◌▹◌ layout.nowhere
  record_given ps h t m e k =
      (λ i. run (sequence_header.enc (made (h i) (t i) (m i) ps (k i)))) ∙
      walked_unused (record_of xs) ps (record_of xs).operating_points same
    where
      same : (i : ℕ) → i < 32 → i ≤ at xs 19 → get_or ps i no_point ≡ get_or ((row.operating_points 20 (at xs 19 + 1)).get xs) i no_point
      same i l u =
          let n : i < used (at xs 19) = omega arith in
          let e₀ : 0 + i ≡ i = omega arith in
          let p : get_or ((row.operating_points 20 (at xs 19 + 1)).get xs) i no_point ≡ point_of xs i = rw e₀ at (place-each no_point (λ i. row.operating_point (20 + 9 * i)) (at xs 19 + 1) xs 32 0 i l (omega arith)) in
          sym (get_or-take (used (at xs 19)) ps i no_point n) ∙ ap (λ (l : List OperatingPoint). get_or l i no_point) e ∙ get_d_each (point_of xs) (used (at xs 19)) i no_point n ∙ sym p
