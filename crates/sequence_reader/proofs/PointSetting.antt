-- What the reader sets of the OBU header, of the timing, of the operating points, and of the frame's identifiers: one lemma for each table.
use mathlib.Core.Path.{◌≡◌, refl, sym, ap}
use mathlib.Core.Bool.{Bool, true, false}
use Prim.Native.Nat.{ℕ}
use native.Mathlib.Omega.{arith}
use borrow.Author.Tests.{le-ltb}
use Rattle.bits.specs.Codec.{absent, inferred_flag, choose, select, via, ◌▷◌}
use Rattle.bits.proofs.Laws.{got-value}
use Rattle.obu.specs.declared.header.ObuHeader.{ObuHeader}
use Rattle.obu.specs.Header.{header_end, header_table, obu_header}
use Rattle.sequence.specs.declared.record.TimingInfo.{TimingInfo}
use Rattle.sequence.specs.declared.record.OperatingPoint.{OperatingPoint}
use Rattle.sequence.specs.declared.record.SequenceHeaderObu.{SequenceHeaderObu}
use Rattle.sequence.specs.declared.group.Timing.{Timing}
use Rattle.sequence.specs.declared.group.PointDelay.{PointDelay}
use Rattle.sequence.specs.Fields.{timing_in, timing_of, PointRestTable, point_rest_out, points_of, general_out, frame_ids_of}
use Rattle.sequence.specs.Optional.{flag_if}
use Rattle.sequence.specs.Timing.{ticks_per_picture, timing_info, no_timing_info, no_decoder_model_info, timing_info_if, decoder_model_info_if, timing, reduced_timing}
use Rattle.sequence.specs.Points.{point_model, point_delay, point_rest, operating_point, no_point, operating_points, points, reduced_delay, reduced_point_rest, reduced_point, reduced_points}
use Rattle.sequence.specs.Frame.{frame_ids}
use Rattle.sequence.specs.Sequence.{full_general, reduced_general, general}
use Rattle.sequence_reader.proofs.Sets.{HeaderSets, TimingSets, PointSets, PointsSets, FrameIdsSets}
use Rattle.sequence_reader.proofs.Found.{Found, first, second, struct, chosen, unchosen, is_absent, is_inferred, is_inferred_flag, uncoded, uncoded_flag, never, by_test, places_set, beyond_set, each_set}

-- 5.3.2, 5.3.3
pub header_sets : {o : ObuHeader} → Found (obu_header 1) o → HeaderSets o
unfolding obu_header header_table header_end
header_sets s =
    let x = second _ _ (second _ _ (second _ _ (second _ _ (second _ _ (struct _ _ _ (λ _. refl) s))))) in
    record { temporal_id = λ e. ap (λ p. p.0) (is_absent (unchosen _ _ _ x e)); spatial_id = λ e. ap (λ p. p.1.0) (is_absent (unchosen _ _ _ x e)) }

-- 5.5.1, 5.5.3, 5.5.4
ticks_set : (present : Bool) {x : TimingInfo} → Found (timing_info_if present) x → x.equal_picture_interval ≡ false → x.num_ticks_per_picture_minus_1 ≡ 0
unfolding timing_info_if timing_info ticks_per_picture
ticks_set true s e = is_absent (unchosen _ _ _ (second _ _ (second _ _ (second _ _ (struct _ _ _ (λ _. refl) (chosen _ _ _ s refl))))) e)
ticks_set false s e = ap (λ (x : TimingInfo). x.num_ticks_per_picture_minus_1) (is_absent (unchosen _ _ _ s refl))

module _ (h : SequenceHeaderObu) where
  full_timing_sets : h.reduced_still_picture_header ≡ false → Found timing (timing_of h) → TimingSets h
  unfolding timing timing_info_if decoder_model_info_if
  full_timing_sets r s =
      let t = second _ _ (struct _ _ _ (λ _. refl) s) in
      let m = second _ _ t in
      record {
        reduced_timing_info_present_flag = never r;
        timing_info = λ e. is_absent (unchosen _ _ _ (first _ _ t) e);
        num_ticks_per_picture_minus_1 = ticks_set h.timing_info_present_flag (first _ _ t);
        decoder_model_info_present_flag = uncoded_flag _ _ _ (first _ _ m);
        decoder_model_info = λ e. is_absent (unchosen _ _ _ (second _ _ m) e);
      }

  reduced_timing_sets : Found reduced_timing (timing_of h) → TimingSets h
  unfolding reduced_timing via ◌▷◌ inferred_flag absent
  reduced_timing_sets s =
      let is : timing_of h ≡ timing_in (false, (no_timing_info, (false, no_decoder_model_info))) = sym (got-value s.finds) in
      record {
        reduced_timing_info_present_flag = λ _. ap (λ (t : Timing). t.timing_info_present_flag) is;
        timing_info = λ _. ap (λ (t : Timing). t.timing_info) is;
        num_ticks_per_picture_minus_1 = λ _. ap (λ (t : Timing). t.timing_info.num_ticks_per_picture_minus_1) is;
        decoder_model_info_present_flag = λ _. ap (λ (t : Timing). t.decoder_model_info_present_flag) is;
        decoder_model_info = λ _. ap (λ (t : Timing). t.decoder_model_info) is;
      }

-- 5.5.1, 5.5.5: the points
delay_set : (has-delay : Bool) (i : ℕ) {x : PointDelay} → Found (point_delay has-delay i) x
    → (has-delay ≡ false → x.initial_display_delay_present_for_this_op ≡ false) × (x.initial_display_delay_present_for_this_op ≡ false → x.initial_display_delay_minus_1 ≡ 0)
unfolding point_delay
delay_set true i s = (λ e. never e refl, λ e. is_absent (unchosen _ _ _ (second _ _ (chosen _ _ _ (struct _ _ _ (λ _. refl) s) refl)) e))
delay_set false i s = let z = is_absent (unchosen _ _ _ (struct _ _ _ (λ _. refl) s) refl) in (λ _. ap (λ p. p.0) z, λ _. ap (λ p. p.1) z)

reduced_rest : {x : PointRestTable} → Found reduced_point_rest x → x ≡ point_rest_out no_point
unfolding reduced_point_rest point_model reduced_delay flag_if via ◌▷◌ choose select absent inferred_flag
reduced_rest s = sym (got-value s.finds)

module _ (h : SequenceHeaderObu) where
  no_point_sets : PointSets h no_point
  no_point_sets = record {
    reduced_operating_point_idc = λ _. refl;
    reduced_seq_tier = λ _. refl;
    seq_tier = λ _. refl;
    decoder_model_present_for_this_op = λ _. refl;
    operating_parameters_info = λ _. refl;
    initial_display_delay_present_for_this_op = λ _. refl;
    initial_display_delay_minus_1 = λ _. refl;
  }

  full_point_sets : h.reduced_still_picture_header ≡ false → (n i : ℕ) {p : OperatingPoint} → Found (operating_point h.decoder_model_info_present_flag n h.initial_display_delay_present_flag i) p → PointSets h p
  unfolding operating_point point_rest point_model
  full_point_sets r n i {p} s =
      let t = second _ _ (second _ _ (struct _ _ _ (λ _. refl) s)) in
      let m = struct _ _ _ (λ _. refl) (first _ _ (second _ _ t)) in
      let d = delay_set _ _ (second _ _ (second _ _ t)) in
      record {
        reduced_operating_point_idc = never r;
        reduced_seq_tier = never r;
        seq_tier = λ e. uncoded _ _ _ _ (first _ _ t) (le-ltb 7 p.seq_level_idx e);
        decoder_model_present_for_this_op = uncoded_flag _ _ _ (first _ _ m);
        operating_parameters_info = λ e. is_absent (unchosen _ _ _ (second _ _ m) e);
        initial_display_delay_present_for_this_op = d.0;
        initial_display_delay_minus_1 = d.1;
      }

  reduced_point_sets : {p : OperatingPoint} → Found reduced_point p → PointSets h p
  unfolding reduced_point
  reduced_point_sets s =
      let t = struct _ _ _ (λ _. refl) s in
      let is = reduced_rest (second _ _ (second _ _ t)) in
      record {
        reduced_operating_point_idc = λ _. is_inferred _ _ (first _ _ t);
        reduced_seq_tier = λ _. ap (λ (x : PointRestTable). x.0) is;
        seq_tier = λ _. ap (λ (x : PointRestTable). x.0) is;
        decoder_model_present_for_this_op = λ _. ap (λ (x : PointRestTable). x.1.0.decoder_model_present_for_this_op) is;
        operating_parameters_info = λ _. ap (λ (x : PointRestTable). x.1.0.operating_parameters_info) is;
        initial_display_delay_present_for_this_op = λ _. ap (λ (x : PointRestTable). x.1.1.initial_display_delay_present_for_this_op) is;
        initial_display_delay_minus_1 = λ _. ap (λ (x : PointRestTable). x.1.1.initial_display_delay_minus_1) is;
      }

  full_points_sets : h.reduced_still_picture_header ≡ false → (n : ℕ) → Found (points h.decoder_model_info_present_flag n) (points_of h) → PointsSets h
  unfolding points operating_points
  full_points_sets r n s =
      let a = second _ _ (second _ _ (struct _ _ _ (λ _. refl) s)) in
      record {
        reduced_initial_display_delay_present_flag = never r;
        reduced_operating_points_cnt_minus_1 = never r;
        places = places_set _ _ _ 32 0 a;
        beyond = λ i e. beyond_set _ _ _ 32 0 a i (omega arith);
        each = each_set _ _ _ (PointSets h) no_point_sets (λ i _ q. full_point_sets r n i q) 32 0 a;
      }

  reduced_points_sets : Found reduced_points (points_of h) → PointsSets h
  unfolding reduced_points
  reduced_points_sets s =
      let t = struct _ _ _ (λ _. refl) s in
      let a = second _ _ (second _ _ t) in
      record {
        reduced_initial_display_delay_present_flag = λ _. is_inferred_flag _ _ (first _ _ t);
        reduced_operating_points_cnt_minus_1 = λ _. is_inferred _ _ (first _ _ (second _ _ t));
        places = places_set _ _ _ 32 0 a;
        beyond = λ i e. beyond_set _ _ _ 32 0 a i (omega arith);
        each = each_set _ _ _ (PointSets h) no_point_sets (λ _ _ q. reduced_point_sets q) 32 0 a;
      }

  pub general_sets : Found (general h.reduced_still_picture_header) (general_out h) → TimingSets h × PointsSets h
  unfolding general full_general reduced_general
  general_sets s = by_test h.reduced_still_picture_header
      (λ e. let g = chosen _ _ _ s e in (reduced_timing_sets h (first _ _ g), reduced_points_sets (second _ _ g)))
      (λ e. let g = unchosen _ _ _ s e in (full_timing_sets h e (first _ _ g), full_points_sets e _ (second _ _ g)))

  -- 5.5.1: the frame's identifiers
  pub frame_ids_sets : Found (frame_ids h.reduced_still_picture_header) (frame_ids_of h) → FrameIdsSets h
  unfolding frame_ids
  frame_ids_sets s =
      let t = struct _ _ _ (λ _. refl) s in
      let z = unchosen _ _ _ (second _ _ t) in
      record {
        reduced_frame_id_numbers_present_flag = λ e. uncoded_flag _ _ _ (first _ _ t) (rw e);
        delta_frame_id_length_minus_2 = λ e. ap (λ p. p.0) (is_absent (z e));
        additional_frame_id_length_minus_1 = λ e. ap (λ p. p.1) (is_absent (z e));
      }
