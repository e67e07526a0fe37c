-- What the reader sets of the tools and of the colour: one lemma for each table.
use mathlib.Core.Path.{◌≡◌, refl, sym, ap}
use mathlib.Core.Bool.{Bool, true, false, not, ◌&&◌}
use Prim.Native.Nat.{ℕ}
use lib.Dec.{ltb, eqb}
use Rattle.bits.specs.Codec.{absent, inferred, inferred_flag, choose, select, via, ◌▷◌}
use Rattle.bits.proofs.Laws.{got-value}
use Rattle.sequence.specs.declared.record.ColorConfig.{ColorConfig}
use Rattle.sequence.specs.declared.record.SequenceHeaderObu.{SequenceHeaderObu}
use Rattle.sequence.specs.declared.group.Choice.{Choice}
use Rattle.sequence.specs.declared.group.InterTools.{InterTools}
use Rattle.sequence.specs.declared.group.Sampling.{Sampling}
use Rattle.sequence.specs.declared.group.Planes.{Planes}
use Rattle.sequence.specs.Fields.{hint_tools_in, choice_in, hint_bits_in, inter_tools_in, inter_tools_of, sampling_in}
use Rattle.sequence.specs.Optional.{flag_if}
use Rattle.sequence.specs.Tools.{hint_tools, choice, no_choice, integer_mv, hint_bits, motion_tools, order_tools, full_tools, reduced_motion_tools, reduced_order_tools, reduced_tools, inter_tools}
use Rattle.sequence.specs.Color.{color_values, color_description, sampling, fixed_sampling, mono_planes, srgb_planes, other_planes, planes, color_rest, color_config}
use Rattle.sequence_reader.proofs.Sets.{ToolsSets, ColorSets}
use Rattle.sequence_reader.proofs.Found.{Found, first, second, struct, chosen, unchosen, is_absent, is_inferred, is_inferred_flag, uncoded, uncoded_flag, never, by_test}

abbrev no_choice_made : Choice
no_choice_made = choice_in (false, 2)

abbrev reduced_made : InterTools
reduced_made = inter_tools_in (false, (false, (false, (false, (false, (hint_tools_in (false, false), (no_choice_made, (no_choice_made, hint_bits_in (0, 0)))))))))

-- 5.5.1: the tools
module _ (e : ℕ) {c : Choice} where
  choice_force : Found (choice e) c → c.seq_choose ≡ true → c.seq_force ≡ 2
  unfolding choice
  choice_force s h = uncoded _ _ _ _ (second _ _ (struct _ _ _ (λ _. refl) s)) (rw h)

  no_choice-set : Found (no_choice e) c → c ≡ no_choice_made
  unfolding no_choice via ◌▷◌ absent inferred
  no_choice-set s = sym (got-value s.finds)

module _ (screen : ℕ) {c : Choice} (s : Found (integer_mv screen) c) where
  no_mv_set : screen ≡ 0 → c ≡ no_choice_made
  unfolding integer_mv
  no_mv_set e = no_choice-set _ (unchosen _ _ _ s (rw e))

  mv_force : c.seq_choose ≡ true → c.seq_force ≡ 2
  unfolding integer_mv
  mv_force h = by_test (ltb 0 screen) (λ e. choice_force _ (chosen _ _ _ s e) h) (λ e. ap (λ (c : Choice). c.seq_force) (no_choice-set _ (unchosen _ _ _ s e)))

module _ (h : SequenceHeaderObu) where
  full_tools_sets : h.reduced_still_picture_header ≡ false → Found full_tools (inter_tools_of h) → ToolsSets h
  unfolding full_tools order_tools motion_tools hint_tools hint_bits
  full_tools_sets r s =
      let o = second _ _ (second _ _ (second _ _ (second _ _ (second _ _ (struct _ _ _ (λ _. refl) s))))) in
      let t = struct _ _ _ (λ _. refl) (first _ _ o) in
      let m = second _ _ o in
      let v = first _ _ (second _ _ m) in
      let b = struct _ _ _ (λ _. refl) (second _ _ (second _ _ m)) in
      record {
        reduced_enable_interintra_compound = never r;
        reduced_enable_masked_compound = never r;
        reduced_enable_warped_motion = never r;
        reduced_enable_dual_filter = never r;
        reduced_enable_order_hint = never r;
        enable_jnt_comp = uncoded_flag _ _ _ (first _ _ t);
        enable_ref_frame_mvs = uncoded_flag _ _ _ (second _ _ t);
        reduced_seq_choose_screen_content_tools = never r;
        reduced_seq_force_screen_content_tools = never r;
        seq_force_screen_content_tools = choice_force _ (first _ _ m);
        reduced_seq_choose_integer_mv = never r;
        reduced_seq_force_integer_mv = never r;
        no_seq_choose_integer_mv = λ e. ap (λ (c : Choice). c.seq_choose) (no_mv_set _ v e);
        no_seq_force_integer_mv = λ e. ap (λ (c : Choice). c.seq_force) (no_mv_set _ v e);
        seq_force_integer_mv = mv_force _ v;
        no_order_hint_bits_minus_1 = λ e. is_absent (first _ _ (unchosen _ _ _ b e));
        no_order_hint_bits = λ e. is_inferred _ _ (second _ _ (unchosen _ _ _ b e));
        order_hint_bits = λ e. is_inferred _ _ (second _ _ (chosen _ _ _ b e));
      }

  reduced_tools_sets : Found reduced_tools (inter_tools_of h) → ToolsSets h
  unfolding reduced_tools reduced_order_tools reduced_motion_tools hint_tools no_choice hint_bits flag_if via ◌▷◌ choose select absent inferred inferred_flag
  reduced_tools_sets s =
      let is : inter_tools_of h ≡ reduced_made = sym (got-value s.finds) in
      record {
        reduced_enable_interintra_compound = λ _. ap (λ (t : InterTools). t.enable_interintra_compound) is;
        reduced_enable_masked_compound = λ _. ap (λ (t : InterTools). t.enable_masked_compound) is;
        reduced_enable_warped_motion = λ _. ap (λ (t : InterTools). t.enable_warped_motion) is;
        reduced_enable_dual_filter = λ _. ap (λ (t : InterTools). t.enable_dual_filter) is;
        reduced_enable_order_hint = λ _. ap (λ (t : InterTools). t.enable_order_hint) is;
        enable_jnt_comp = λ _. ap (λ (t : InterTools). t.hint_tools.enable_jnt_comp) is;
        enable_ref_frame_mvs = λ _. ap (λ (t : InterTools). t.hint_tools.enable_ref_frame_mvs) is;
        reduced_seq_choose_screen_content_tools = λ _. ap (λ (t : InterTools). t.screen_content_tools.seq_choose) is;
        reduced_seq_force_screen_content_tools = λ _. ap (λ (t : InterTools). t.screen_content_tools.seq_force) is;
        seq_force_screen_content_tools = λ _. ap (λ (t : InterTools). t.screen_content_tools.seq_force) is;
        reduced_seq_choose_integer_mv = λ _. ap (λ (t : InterTools). t.integer_mv.seq_choose) is;
        reduced_seq_force_integer_mv = λ _. ap (λ (t : InterTools). t.integer_mv.seq_force) is;
        no_seq_choose_integer_mv = λ _. ap (λ (t : InterTools). t.integer_mv.seq_choose) is;
        no_seq_force_integer_mv = λ _. ap (λ (t : InterTools). t.integer_mv.seq_force) is;
        seq_force_integer_mv = λ _. ap (λ (t : InterTools). t.integer_mv.seq_force) is;
        no_order_hint_bits_minus_1 = λ _. ap (λ (t : InterTools). t.hint_bits.order_hint_bits_minus_1) is;
        no_order_hint_bits = λ _. ap (λ (t : InterTools). t.hint_bits.order_hint_bits) is;
        order_hint_bits = never (ap (λ (t : InterTools). t.enable_order_hint) is);
      }

  pub tools_sets : Found (inter_tools h.reduced_still_picture_header) (inter_tools_of h) → ToolsSets h
  unfolding inter_tools
  tools_sets s = by_test h.reduced_still_picture_header (λ e. reduced_tools_sets (chosen _ _ _ s e)) (λ e. full_tools_sets e (unchosen _ _ _ s e))

-- 5.5.2
and_false : (a : Bool) {b : Bool} → b ≡ false → a && b ≡ false
and_false true e = e
and_false false e = refl

fixed_set : (x y : Bool) {g : Sampling} → Found (fixed_sampling x y) g → g ≡ sampling_in (x, (y, 0))
unfolding fixed_sampling via ◌▷◌ inferred_flag inferred
fixed_set x y s = sym (got-value s.finds)

mono_set : {x : Planes} → Found mono_planes x → (x.sampling ≡ sampling_in (true, (true, 0))) × (x.separate_uv_delta_q ≡ false)
unfolding mono_planes
mono_set s = let t = second _ _ (struct _ _ _ (λ _. refl) s) in (fixed_set _ _ (first _ _ t), is_inferred_flag _ _ (second _ _ t))

srgb-set : {x : Planes} → Found srgb_planes x → (x.color_range ≡ true) × (x.sampling ≡ sampling_in (false, (false, 0)))
unfolding srgb_planes
srgb-set s = let t = struct _ _ _ (λ _. refl) s in (is_inferred_flag _ _ (first _ _ t), fixed_set _ _ (first _ _ (second _ _ t)))

module _ (profile : ℕ) (twelve : Bool) {x : Planes} (s : Found (other_planes profile twelve) x) where
  other-sampling : Found (sampling profile twelve) x.sampling
  unfolding other_planes
  other-sampling = first _ _ (second _ _ (struct _ _ _ (λ _. refl) s))

  other_x : twelve ≡ false → x.sampling.subsampling_x ≡ not (eqb profile 1)
  unfolding sampling
  other_x e = uncoded_flag _ _ _ (first _ _ (struct _ _ _ (λ _. refl) other-sampling)) e

  other_y : twelve && x.sampling.subsampling_x ≡ false → x.sampling.subsampling_y ≡ eqb profile 0
  unfolding sampling
  other_y e = uncoded_flag _ _ _ (first _ _ (second _ _ (struct _ _ _ (λ _. refl) other-sampling))) e

  other-position : x.sampling.subsampling_x && x.sampling.subsampling_y ≡ false → x.sampling.chroma_sample_position ≡ 0
  unfolding sampling
  other-position e = uncoded _ _ _ _ (second _ _ (second _ _ (struct _ _ _ (λ _. refl) other-sampling))) e

  other-both : twelve ≡ false → (x.sampling.subsampling_x ≡ not (eqb profile 1)) × (x.sampling.subsampling_y ≡ eqb profile 0)
  other-both e = (other_x e, other_y (rw e))

module _ (profile : ℕ) (twelve mono is-srgb : Bool) {x : Planes} (s : Found (planes profile twelve mono is-srgb) x) where
  when_mono : mono ≡ true → (x.sampling ≡ sampling_in (true, (true, 0))) × (x.separate_uv_delta_q ≡ false)
  unfolding planes
  when_mono e = mono_set (chosen _ _ _ s e)

  when_srgb : (mono ≡ false) × (is-srgb ≡ true) → (x.color_range ≡ true) × (x.sampling ≡ sampling_in (false, (false, 0)))
  unfolding planes
  when_srgb e = srgb-set (chosen _ _ _ (unchosen _ _ _ s e.0) e.1)

  when_other : (mono ≡ false) × (is-srgb ≡ false) → Found (other_planes profile twelve) x
  unfolding planes
  when_other e = unchosen _ _ _ (unchosen _ _ _ s e.0) e.1

  position-set : x.sampling.subsampling_x && x.sampling.subsampling_y ≡ false → x.sampling.chroma_sample_position ≡ 0
  position-set h = by_test mono
      (λ e. ap (λ (g : Sampling). g.chroma_sample_position) (when_mono e).0)
      (λ e. by_test is-srgb (λ i. ap (λ (g : Sampling). g.chroma_sample_position) (when_srgb (e, i)).1) (λ i. other-position _ _ (when_other (e, i)) h))

pub color_sets : (profile : ℕ) {k : ColorConfig} → Found (color_config profile) k → ColorSets profile k
unfolding color_config color_rest color_description color_values
color_sets profile {k} s =
    let t = second _ _ (struct _ _ _ (λ _. refl) s) in
    let m = second _ _ t in
    let d = second _ _ (struct _ _ _ (λ _. refl) (first _ _ (second _ _ m))) in
    let n = second _ _ (second _ _ m) in
    let p = first _ _ n in
    let twelve : eqb profile 2 && k.high_bitdepth ≡ false → k.twelve_bit ≡ false = uncoded_flag _ _ _ (first _ _ t) in
    let one = when_mono _ _ _ _ p in
    let rgb = when_srgb _ _ _ _ p in
    let other = when_other _ _ _ _ p in
    record {
      twelve_bit = twelve;
      mono_chrome = λ e. uncoded_flag _ _ _ (first _ _ m) (rw e);
      color_primaries = uncoded _ _ _ _ (first _ _ d);
      transfer_characteristics = uncoded _ _ _ _ (first _ _ (second _ _ d));
      matrix_coefficients = uncoded _ _ _ _ (second _ _ (second _ _ d));
      mono_subsampling_x = λ e. ap (λ (g : Sampling). g.subsampling_x) (one e).0;
      mono_subsampling_y = λ e. ap (λ (g : Sampling). g.subsampling_y) (one e).0;
      mono_chroma_sample_position = λ e. ap (λ (g : Sampling). g.chroma_sample_position) (one e).0;
      mono_separate_uv_delta_q = λ e. (one e).1;
      srgb-color_range = λ q. (rgb q).0;
      srgb-subsampling_x = λ q. ap (λ (g : Sampling). g.subsampling_x) (rgb q).1;
      srgb-subsampling_y = λ q. ap (λ (g : Sampling). g.subsampling_y) (rgb q).1;
      profile_0 = λ q e. rw e at (other-both profile k.twelve_bit (other q) (twelve (rw e)));
      profile_1 = λ q e. rw e at (other-both profile k.twelve_bit (other q) (twelve (rw e)));
      profile_2 = λ q e w. rw e at (other-both profile k.twelve_bit (other q) w);
      profile_2_subsampling_y = λ q e w. rw e at (other_y profile k.twelve_bit (other q) (and_false k.twelve_bit w));
      chroma_sample_position = position-set _ _ _ _ p;
      num_planes = is_inferred _ _ (second _ _ n);
    }
