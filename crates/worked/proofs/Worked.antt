-- Document 01's worked table, proved as a whole: each line stands over what says it, in the table's order.
use mathlib.Core.Path.{◌≡◌, refl}
use mathlib.Core.List.{List, ◌∷◌, [], ◌++◌}
use mathlib.Core.Bool.{true, false}
use Prim.Native.Nat.{ℕ, ◌≤◌}
use native.Mathlib.Omega.{arith}
use lib.ListN.{length, drop}
use lib.Dec.{eqb}
use lib.IntN.{pos, negsuc}
use borrow.Author.Rules.{rules}
use Rattle.bits.specs.Bits.{to_bits, bit_at, bits_of, from_bits, Bits}
use Rattle.bits.specs.Walk.{Walk, wrote, refuses, join, run}
use Rattle.bits.specs.Codec.{◌▷◌, choose, select, via, allowed, within, checked, f, flag, zeros, absent, inferred, inferred_flag, array, merged, take_bits, Nil, nil}
use Rattle.bits.specs.Widths.{width_up_to, bit_length, signed_length}
use Rattle.bits.specs.Codes.{leb128, leb_step, unary, uvlc, su}
use Rattle.bits.specs.Answers.{numbered}
use Rattle.bits.specs.declared.answer.Refusal.TheVariants.{Inconsistent, Short, Ends, Size, Trailing, Unfit}
use Rattle.bits.specs.declared.answer.Numbered.{Numbered}
use Rattle.bits.specs.declared.answer.Refusal.{Refusal}
use Rattle.std.specs.Prelude.{Result, Ok, Err}
use Rattle.obu.specs.Writer.{written}
use Rattle.obu.specs.Delimiter.{temporal_delimiter}
use Rattle.obu.specs.Demand3.{AreBytes, read}
use Rattle.obu.specs.Header.{expected_type, header_end, header_table, obu_header, obu_extension_header}
use Rattle.obu.specs.Framing.{obu_size, trailing_bits, framed, read_size, read_trailing, is_trailing, all_zero}
use Rattle.obu.specs.Obu.{obu, read_obu}
use Rattle.obu.proofs.Demands.{gives}
use Rattle.obu.proofs.Delimiters.{plain, run-plain}
use Rattle.obu.proofs.Writing.{too_short, refusing, untouched}
use Rattle.sequence.specs.declared.record.SequenceHeaderObu.{SequenceHeaderObu}
use Rattle.sequence.specs.Optional.{f_if, flag_if}
use Rattle.sequence.specs.Timing.{ticks_per_picture, timing_info, decoder_model_info, timing_info_if, decoder_model_info_if, timing, reduced_timing}
use Rattle.sequence.specs.Points.{operating_parameters_info, point_model, point_delay, point_rest, operating_point, operating_points, points, reduced_delay, reduced_point_rest, reduced_point, reduced_points}
use Rattle.sequence.specs.Frame.{max_frame_size, frame_size_fields, frame_size, frame_ids}
use Rattle.sequence.specs.Tools.{block_tools, hint_tools, choice, no_choice, integer_mv, hint_bits, motion_tools, order_tools, full_tools, reduced_motion_tools, reduced_order_tools, reduced_tools, inter_tools, filter_tools}
use Rattle.sequence.specs.Color.{color_values, color_description, sampling, fixed_sampling, mono_planes, srgb_planes, other_planes, planes, color_rest, color_config}
use Rattle.sequence.specs.Sequence.{profile, full_general, reduced_general, general, color_and_grain, tools_and_color, body, sequence_header_obu, sequence_header}
use Rattle.sequence_reader.specs.Layouts.{numbers_of}
use Rattle.sequence_reader.specs.Reader.{answer, answer_for, Answers}
use Rattle.parts.specs.Codes.{inferred_signed, zip}
use Rattle.quantization.specs.Quantization.{read_delta_q, diff_uv, v_coded, v_inferred, v_deltas, uv_deltas, no_uv_deltas, three_planes, one_plane, chroma, v_matrix, matrices, qmatrix, quantization_table, quantization_params}
use Rattle.cdef.specs.Cdef.{damping, secondary, strength, strengths, each_strength, on_table, cdef_on, cdef_off, cdef_params}
use Rattle.restoration.specs.Restoration.{small_shift, unit_shift}
use Rattle.worked.proofs.Records.{Unlooked, none, still, hd, quantization, cdef}

-- bits as they are printed
unfoldable pub digits : List ℕ → Bits
digits [] = []
digits (d ∷ ds) = eqb d 1 ∷ digits ds

-- The numbers that an answer returns: its own, and the two that it carries.
abbrev numbers : ℕ → ℕ → ℕ → Numbered
numbers n first second = record { number = n; first = first; second = second; third = 0 }

-- The public writer of the walk w writes the bytes es: into every buffer that has room for them, with every byte behind them kept.
pub record Gives (w : Walk) (es : List ℕ) : Type 0 where
  pub into : (buffer : List ℕ) → AreBytes buffer → length es ≤ length buffer → length buffer ≤ 65536
      → written w buffer ≡ record { answer = Ok (length es); bytes = es ++ drop (length es) buffer }

-- It refuses, and keeps every byte of the buffer.
abbrev Keeps : Walk → List ℕ → Refusal → Numbered → Type 0
Keeps w buffer z n = (written w buffer ≡ untouched z buffer) × (numbered z ≡ n)

-- The public reader reads the bytes es as the record h, whose numbers it leaves ..
abbrev Reads : List ℕ → SequenceHeaderObu → Type 0
Reads es h = (ns : List ℕ) (o : Result Nil Refusal) (ms : List ℕ) → Answers es ns o ms → answer o ms ≡ answer (Ok nil) (numbers_of h)

-- .. or refuses them, and keeps the numbers that it is lent.
abbrev Refuses : List ℕ → Refusal → Numbered → Type 0
Refuses es z n = (ns : List ℕ) (o : Result Nil Refusal) (ms : List ℕ) → Answers es ns o ms → (answer o ms ≡ answer (Err z) ns) × (numbered z ≡ n)

-- The walk w has these bits.
abbrev Has : Walk → List ℕ → Type 0
Has w ds = run w ≡ wrote (digits ds)

pub record Worked : Type 0 where
  -- 1. Delimiter: `12 00`; without size `10`.
  pub case_1 : (temporal spatial : ℕ) → Gives (temporal_delimiter (plain true temporal spatial)) (0x12 ∷ 0x00 ∷ [])
  pub case_1_without_size : (temporal spatial : ℕ) → Gives (temporal_delimiter (plain false temporal spatial)) (0x10 ∷ [])
  -- 2. Reduced still, 1 by 1, level 0, mono, other coded fields 0, inferred ones as inferred: `0A 04 18 00 00 11`.
  pub case_2 : (u : Unlooked) → Gives (sequence_header.enc (still 0 0 u)) (0x0A ∷ 0x04 ∷ 0x18 ∷ 0x00 ∷ 0x00 ∷ 0x11 ∷ [])
  -- 3. Its buffer of 5 bytes: refusal 3, carrying 6.
  pub case_3 : (u : Unlooked) (buffer : List ℕ) → length buffer ≡ 5 → Keeps (sequence_header.enc (still 0 0 u)) buffer (Short 6) (numbers 3 6 0)
  -- 4. `0A 84 00 18 00 00 11` and `0A 05 18 00 00 11 00` read as case 2.
  pub case_4_long_size : Reads (0x0A ∷ 0x84 ∷ 0x00 ∷ 0x18 ∷ 0x00 ∷ 0x00 ∷ 0x11 ∷ []) (still 0 0 none)
  pub case_4_padding : Reads (0x0A ∷ 0x05 ∷ 0x18 ∷ 0x00 ∷ 0x00 ∷ 0x11 ∷ 0x00 ∷ []) (still 0 0 none)
  -- 5. `0A 04 18 00 00 10`: 7. `0A 05 18 00 00 11`: 6. `0A`: 4.
  pub case_5_trailing : Refuses (0x0A ∷ 0x04 ∷ 0x18 ∷ 0x00 ∷ 0x00 ∷ 0x10 ∷ []) Trailing (numbers 7 0 0)
  pub case_5_size : Refuses (0x0A ∷ 0x05 ∷ 0x18 ∷ 0x00 ∷ 0x00 ∷ 0x11 ∷ []) Size (numbers 6 0 0)
  pub case_5_ends : Refuses (0x0A ∷ []) Ends (numbers 4 0 0)
  -- 6. 1920 by 1080, profile 0, level 8, tier 0, both bit counts minus 1 at 10, the three intra/superblock flags and seven enable flags 1, both choose
  -- flags 1, order_hint_bits_minus_1 6, CDEF and restoration on, colour all zero with 2,2,2 and 4:2:0: `0A 0B 00 00 00 42 AB BF C3 77 FF E6 01`.
  pub case_6 : (u : Unlooked) → Gives (sequence_header.enc (hd u)) (0x0A ∷ 0x0B ∷ 0x00 ∷ 0x00 ∷ 0x00 ∷ 0x42 ∷ 0xAB ∷ 0xBF ∷ 0xC3 ∷ 0x77 ∷ 0xFF ∷ 0xE6 ∷ 0x01 ∷ [])
  -- 7. Width bits minus 1 at 7: max_frame_width_minus_1 255 passes, 256 is refusal 1, element 21.
  pub case_7_255 : (u : Unlooked) → Gives (sequence_header.enc (still 7 255 u)) (0x0A ∷ 0x05 ∷ 0x18 ∷ 0x1C ∷ 0x3F ∷ 0xC0 ∷ 0x22 ∷ [])
  pub case_7_256 : (u : Unlooked) (buffer : List ℕ) → length buffer ≤ 65536 → Keeps (sequence_header.enc (still 7 256 u)) buffer (Inconsistent 21 0) (numbers 1 21 0)
  -- 8. `su(7)`: -1 is 1111111, -64 and 63 fit, 64 and -65 do not.
  pub case_8_minus_1 : (e i : ℕ) → Has ((su 7 e i).enc (negsuc 0)) (1 ∷ 1 ∷ 1 ∷ 1 ∷ 1 ∷ 1 ∷ 1 ∷ [])
  pub case_8_minus_64 : (e i : ℕ) → Has ((su 7 e i).enc (negsuc 63)) (1 ∷ 0 ∷ 0 ∷ 0 ∷ 0 ∷ 0 ∷ 0 ∷ [])
  pub case_8_63 : (e i : ℕ) → Has ((su 7 e i).enc (pos 63)) (0 ∷ 1 ∷ 1 ∷ 1 ∷ 1 ∷ 1 ∷ 1 ∷ [])
  pub case_8_64 : (e i : ℕ) → run ((su 7 e i).enc (pos 64)) ≡ refuses (Unfit e i 8)
  pub case_8_minus_65 : (e i : ℕ) → run ((su 7 e i).enc (negsuc 64)) ≡ refuses (Unfit e i 8)
  -- 9. `uvlc` 0, 1, 2: 1, 010, 011.
  pub case_9_0 : (e i : ℕ) → Has ((uvlc e i).enc 0) (1 ∷ [])
  pub case_9_1 : (e i : ℕ) → Has ((uvlc e i).enc 1) (0 ∷ 1 ∷ 0 ∷ [])
  pub case_9_2 : (e i : ℕ) → Has ((uvlc e i).enc 2) (0 ∷ 1 ∷ 1 ∷ [])
  -- 10. Quantization, mono, base 100, luma delta -1, no matrices: 01100100 1 1111111 0.
  pub case_10 : Has ((quantization_params (record { planes = 1; separate_uv_delta_q = false })).enc quantization) (0 ∷ 1 ∷ 1 ∷ 0 ∷ 0 ∷ 1 ∷ 0 ∷ 0 ∷ 1 ∷ 1 ∷ 1 ∷ 1 ∷ 1 ∷ 1 ∷ 1 ∷ 1 ∷ 0 ∷ [])
  -- 11. CDEF, mono, damping 3, bits 0, strengths 1 and 4: 00 00 0001 11.
  pub case_11 : Has ((cdef_params (record { coded_lossless = false; allow_intrabc = false; enable_cdef = true; planes = 1 })).enc cdef) (0 ∷ 0 ∷ 0 ∷ 0 ∷ 0 ∷ 0 ∷ 0 ∷ 1 ∷ 1 ∷ 1 ∷ [])
  -- 12. Small superblock, shift 0, 1, 2: 0, 10, 11.
  pub case_12_0 : Has ((unit_shift false).enc 0) (0 ∷ [])
  pub case_12_1 : Has ((unit_shift false).enc 1) (1 ∷ 0 ∷ [])
  pub case_12_2 : Has ((unit_shift false).enc 2) (1 ∷ 1 ∷ [])

given : {w : Walk} {es : List ℕ} → AreBytes es → run w ≡ wrote (bits_of es) → Gives w es
given E e = record { into = λ buffer B h few. gives _ _ buffer e E B h few }

pub worked : Worked
unfolding answer_for read read_obu read_size read_trailing is_trailing all_zero bits_of to_bits bit_at from_bits take_bits ◌▷◌ choose select via allowed within checked f flag zeros absent inferred inferred_flag array merged leb128 leb_step obu obu_header header_table expected_type header_end obu_extension_header f_if flag_if ticks_per_picture timing_info decoder_model_info timing_info_if decoder_model_info_if timing reduced_timing operating_parameters_info point_model point_delay point_rest operating_point operating_points points reduced_delay reduced_point_rest reduced_point reduced_points max_frame_size frame_size_fields frame_size frame_ids block_tools hint_tools choice no_choice integer_mv hint_bits motion_tools order_tools full_tools reduced_motion_tools reduced_order_tools reduced_tools inter_tools filter_tools color_values color_description sampling fixed_sampling mono_planes srgb_planes other_planes planes color_rest color_config profile full_general reduced_general general color_and_grain tools_and_color body sequence_header_obu sequence_header run join framed obu_size trailing_bits digits read_delta_q diff_uv v_coded v_inferred v_deltas uv_deltas no_uv_deltas three_planes one_plane chroma v_matrix matrices qmatrix quantization_table quantization_params inferred_signed su damping secondary strength strengths each_strength on_table cdef_on cdef_off cdef_params zip unit_shift small_shift uvlc unary width_up_to bit_length signed_length
worked = record {
  case_1 = λ t s. given (search rules) (run-plain true t s);
  case_1_without_size = λ t s. given (search rules) (run-plain false t s);
  case_2 = λ u. given (search rules) refl;
  case_3 = λ u buffer h. (too_short _ buffer (omega arith) _ refl (omega arith), refl);
  case_4_long_size = λ ns o ms h. h;
  case_4_padding = λ ns o ms h. h;
  case_5_trailing = λ ns o ms h. (h, refl);
  case_5_size = λ ns o ms h. (h, refl);
  case_5_ends = λ ns o ms h. (h, refl);
  case_6 = λ u. given (search rules) refl;
  case_7_255 = λ u. given (search rules) refl;
  case_7_256 = λ u buffer few. (refusing _ buffer _ few refl, refl);
  case_8_minus_1 = λ e i. refl;
  case_8_minus_64 = λ e i. refl;
  case_8_63 = λ e i. refl;
  case_8_64 = λ e i. refl;
  case_8_minus_65 = λ e i. refl;
  case_9_0 = λ e i. refl;
  case_9_1 = λ e i. refl;
  case_9_2 = λ e i. refl;
  case_10 = refl;
  case_11 = refl;
  case_12_0 = refl;
  case_12_1 = refl;
  case_12_2 = refl;
}
