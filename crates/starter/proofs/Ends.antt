-- How the walk of the record to start from ends; and that what it does not code is 0.
use mathlib.Core.Path.{◌≡◌, refl, ap}
use mathlib.Core.Bool.{Bool, true, false}
use mathlib.Core.Logic.{◌⊎◌, inl, inr}
use Prim.Native.Nat.{ℕ, ◌+◌, ◌^◌, ◌≤◌, ◌<◌}
use native.Mathlib.Omega.{arith}
use lib.Dec.{eqb}
use lib.Pow.{pow_mono}
use borrow.Author.Tests.{lt-ltb, le-ltb, ne_eqb}
use Rattle.bits.specs.Widths.{bit_length}
use Rattle.bits.specs.Elements.{frame_width_bits_minus_1, frame_height_bits_minus_1, twelve_bit}
use Rattle.bits.specs.Walk.{End, done, refused, Out, run, join}
use Rattle.bits.specs.Codec.{◌▷◌, choose, select, via, allowed, within, checked, f, flag, zeros, absent, inferred, inferred_flag, array}
use Rattle.bits.specs.declared.answer.Refusal.{Refusal}
use Rattle.bits.specs.declared.answer.Refusal.TheVariants.{Inconsistent, Unfit}
use Rattle.obu.specs.Header.{expected_type, header_end, header_table, obu_header}
use Rattle.obu.specs.Framing.{framed}
use Rattle.obu.specs.Obu.{obu}
use Rattle.obu.specs.Demand3.{Consistent}
use Rattle.bits.proofs.Widths.{bit_holds, bit-least, bit_more, bit_is}
use Rattle.obu.proofs.Framing.{obu-total}
use Rattle.obu.proofs.Writing.{wrote_all}
use Rattle.sequence.specs.Fields.{sequence_out, frame_size_of}
use Rattle.sequence.specs.Optional.{f_if, flag_if}
use Rattle.sequence.specs.Timing.{timing_info_if, decoder_model_info_if, timing}
use Rattle.sequence.specs.Points.{point_model, point_delay, point_rest, operating_point, operating_points, points}
use Rattle.sequence.specs.Frame.{max_frame_size, frame_size_fields, frame_size, frame_ids}
use Rattle.sequence.specs.Tools.{block_tools, hint_tools, choice, integer_mv, hint_bits, motion_tools, order_tools, full_tools, inter_tools, filter_tools}
use Rattle.sequence.specs.Color.{color_values, color_description, sampling, other_planes, planes, color_rest, color_config}
use Rattle.sequence.specs.Sequence.{profile, full_general, general, color_and_grain, tools_and_color, body, sequence_header_obu, sequence_header}
use Rattle.sequence.proofs.Counts.{few}
use Rattle.starter.specs.Video.{minus_1, bits_minus_1, video}

-- The frame's size, minus 1: its bit counts always count it, and fit their fields where it is below 65,536.
abbrev size_end : ℕ → ℕ → ℕ → End
size_end w h d = (run (frame_size.enc (frame_size_of (video w h d)))).end

counts : (size : ℕ) → minus_1 size < 2 ^ (bits_minus_1 size + 1)
counts size =
    let k : 2 ^ bit_length (minus_1 size) ≤ 2 ^ (bits_minus_1 size + 1) = pow_mono (omega arith) in
    omega (arith, bit_holds (minus_1 size))

fits : (size : ℕ) → minus_1 size < 65536 → bits_minus_1 size < 16
fits size h = omega (arith, bit-least (minus_1 size) 16 h)

unfit : (size : ℕ) → 65536 ≤ minus_1 size → 16 ≤ bits_minus_1 size
unfit size h = omega (arith, bit_more (minus_1 size) 16 h)

-- a count that does not fit needs five bits
five : (size : ℕ) → 65536 ≤ minus_1 size → bit_length (bits_minus_1 size) ≡ 5
five size h = bit_is (bits_minus_1 size) 4 (unfit size h) (omega (arith, bit-least (minus_1 size) 32 (omega arith)))

module _ (w h d : ℕ) where
  pub size-done : minus_1 w < 65536 → minus_1 h < 65536 → size_end w h d ≡ done
  unfolding video frame_size frame_size_fields max_frame_size checked via ◌▷◌ f run join
  size-done p q = rw (size_end, lt-ltb _ _ (counts w), lt-ltb _ _ (counts h), lt-ltb _ 16 (fits w p), lt-ltb _ 16 (fits h q))

  pub size-wide : 65536 ≤ minus_1 w → size_end w h d ≡ refused (Unfit frame_width_bits_minus_1 0 5)
  unfolding video frame_size frame_size_fields max_frame_size checked via ◌▷◌ f run join
  size-wide p = rw (size_end, lt-ltb _ _ (counts w), lt-ltb _ _ (counts h), le-ltb _ 16 (unfit w p), five w p)

  pub size_high : minus_1 w < 65536 → 65536 ≤ minus_1 h → size_end w h d ≡ refused (Unfit frame_height_bits_minus_1 0 5)
  unfolding video frame_size frame_size_fields max_frame_size checked via ◌▷◌ f run join
  size_high p q = rw (size_end, lt-ltb _ _ (counts w), lt-ltb _ _ (counts h), lt-ltb _ 16 (fits w p), le-ltb _ 16 (unfit h q), five h q)

-- The depths of a video.
abbrev pub Depth : ℕ → Type 0
Depth d = (d ≡ 8) ⊎ (d ≡ 10) ⊎ (d ≡ 12)

-- The payload, by how its frame's size ends.
abbrev payload_end : ℕ → ℕ → ℕ → End
payload_end w h d = (run (sequence_header_obu.enc (sequence_out (video w h d)))).end

module _ (w h d : ℕ) where
  pub depth : Depth d → size_end w h d ≡ done → payload_end w h d ≡ done
  unfolding video run join ◌▷◌ choose select via allowed within f flag absent inferred inferred_flag array f_if flag_if timing_info_if decoder_model_info_if timing point_model point_delay point_rest operating_point operating_points points frame_ids block_tools hint_tools choice integer_mv hint_bits motion_tools order_tools full_tools inter_tools filter_tools color_values color_description sampling other_planes planes color_rest color_config profile full_general general color_and_grain tools_and_color body sequence_header_obu
  depth (inl p) e = rw (payload_end, p, e)
  depth (inr (inl p)) e = rw (payload_end, p, e)
  depth (inr (inr p)) e = rw (payload_end, p, e)

  pub no_depth : (Depth d → ⊥) → size_end w h d ≡ done → payload_end w h d ≡ refused (Inconsistent twelve_bit 0)
  unfolding video run join ◌▷◌ choose select via allowed within f flag absent inferred inferred_flag array f_if flag_if timing_info_if decoder_model_info_if timing point_model point_delay point_rest operating_point operating_points points frame_ids block_tools hint_tools choice integer_mv hint_bits motion_tools order_tools full_tools inter_tools filter_tools color_values color_description sampling other_planes planes color_rest color_config profile full_general general color_and_grain tools_and_color body sequence_header_obu
  no_depth n e = rw (payload_end, ne_eqb d 8 (λ p. n (inl p)), ne_eqb d 10 (λ p. n (inr (inl p))), ne_eqb d 12 (λ p. n (inr (inr p))), e)

  pub no_size : (r : Refusal) → size_end w h d ≡ refused r → payload_end w h d ≡ refused r
  unfolding video run join ◌▷◌ choose select via allowed within f flag absent inferred_flag array f_if flag_if timing_info_if decoder_model_info_if timing point_model point_delay point_rest operating_point operating_points points profile full_general general body sequence_header_obu
  no_size r e = go (eqb d 12) refl
    where
      go : (t : Bool) → eqb d 12 ≡ t → payload_end w h d ≡ refused r
      go true k = rw (payload_end, k, e)
      go false k = rw (payload_end, k, e)

-- The whole.
head : (w h d : ℕ) → (run ((obu_header 1).enc (video w h d).obu_header)).end ≡ done
unfolding video obu_header header_table header_end expected_type run join ◌▷◌ choose via allowed f flag zeros absent
head w h d = refl

module _ (w h d : ℕ) where
  pub whole : payload_end w h d ≡ done → Consistent sequence_header (video w h d)
  unfolding sequence_header via
  whole e =
      let v = video w h d in
      let p = wrote_all (run (sequence_header_obu.enc (sequence_out v))) e in
      let g = obu-total 1 sequence_header_obu v.obu_header (sequence_out v) _ _ (wrote_all _ (head w h d)) p (omega (arith, (few (sequence_out v)).most _ p)) in
      ap (λ (o : Out). o.end) g.1

  -- a payload that is refused is refused before its size is written
  pub refused-whole : (r : Refusal) → payload_end w h d ≡ refused r → (run (sequence_header.enc (video w h d))).end ≡ refused r
  unfolding sequence_header via obu framed run join
  refused-whole r e = rw (head w h d, e)

-- What is read back is the record: each field that is neither coded nor checked is 0.
module _ (w h d : ℕ) where
  pub all_coded : Depth d → sequence_header.coded (video w h d) ≡ video w h d
  unfolding video ◌▷◌ choose select via allowed within checked f flag zeros absent inferred inferred_flag array f_if flag_if timing_info_if decoder_model_info_if timing point_model point_delay point_rest operating_point operating_points points max_frame_size frame_size_fields frame_size frame_ids block_tools hint_tools choice integer_mv hint_bits motion_tools order_tools full_tools inter_tools filter_tools color_values color_description sampling other_planes planes color_rest color_config profile full_general general color_and_grain tools_and_color body sequence_header_obu sequence_header obu expected_type header_end header_table obu_header
  all_coded (inl p) = rw p
  all_coded (inr (inl p)) = rw p
  all_coded (inr (inr p)) = rw p
