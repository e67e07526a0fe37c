-- How the header is read up to the operating points: the timing, and the decoder model, by which the points' delays go.
use mathlib.Core.Path.{◌≡◌, refl}
use mathlib.Core.List.{List, [], ◌∷◌}
use mathlib.Core.Bool.{Bool, true, false}
use Prim.Native.Nat.{ℕ, ◌+◌, min}
use native.Mathlib.Omega.{arith}
use lib.Seq.{sets}
use Rattle.std.specs.Prelude.{Result, Ok}
use Rattle.std.specs.Result.{result_from_control_flow}
use Rattle.std.specs.declared.ops.ControlFlow.TheVariants.{Continue}
use Rattle.bits.specs.Codec.{f, absent, inferred_flag, choose, via, ◌▷◌, Nil, nil}
use Rattle.bits.specs.declared.answer.Refusal.{Refusal}
use Rattle.reader.specs.declared.BitReader.{BitReader}
use Rattle.reader.specs.Reading.{Said, completes}
use Rattle.reader.proofs.Reading as reading
use Rattle.reader.proofs.Reading.{went, Fixed, fixed, by_absent, known_on, known_flag_on, f_fits}
use Rattle.fill.specs.Fills.{Layout, at, of, ◌▸◌, ◌▹◌, Fills, fills}
use Rattle.fill.proofs.Filling.{Laid, laid, begin, final, settled, struct_on, group_on}
use Rattle.sequence.specs.declared.record.DecoderModelInfo.{DecoderModelInfo}
use Rattle.sequence.specs.declared.group.Points.{Points}
use Rattle.sequence.specs.Fields.{timing_in, points_out, points_in}
use Rattle.sequence.specs.Timing.{no_timing_info, no_decoder_model_info, decoder_model_info_if, reduced_timing}
use Rattle.sequence.specs.Points.{points, reduced_points}
use Rattle.sequence.specs.Sequence.{reduced_general}
use Rattle.sequence_reader.specs.Layouts as row
use Rattle.sequence_reader.specs.Tails.{any_point, point_list, model_points, with_model}
use Rattle.sequence_reader.proofs.Steps.{fields, grouped_steps, fill_exits}

-- no timing
pub no_timing : {p : BitReader} {m z : List ℕ} → z ≡ sets m 9 (0 ∷ 0 ∷ 0 ∷ 0 ∷ []) → Laid ((row.timing_info).from 9) (absent no_timing_info) p p (Ok nil) m z
unfolding of ◌▸◌ at
no_timing e = settled _ no_timing_info (by_absent no_timing_info) e

no_model : Fixed (decoder_model_info_if false) no_decoder_model_info
unfolding decoder_model_info_if choose absent
no_model = fixed (λ bs. refl)

no_times : Fixed reduced_timing (timing_in (false, (no_timing_info, (false, no_decoder_model_info))))
unfolding reduced_timing via ◌▷◌ inferred_flag absent
no_times = fixed (λ bs. refl)

module _ {p q : BitReader} {g : Result Nil Refusal} {m z : List ℕ} where
  -- a model, or none
  pub model_yes : {l : Layout (List ℕ) (DecoderModelInfo × Points)} (has_model : Bool) → has_model ≡ true → Fills l with_model.dec p q g m z → Fills l (model_points has_model).dec p q g m z
  unfolding model_points with_model decoder_model_info_if choose ◌▷◌
  model_yes has_model h i = rw h i

  pub model_no : (has_model : Bool) → has_model ≡ false → Fills ((row.points).from 18) (points has_model 1).dec p q g (sets m 14 (0 ∷ 0 ∷ 0 ∷ 0 ∷ [])) z
      → Fills ((row.decoder_model_info).from 14 ▸ (row.points).from 18) (model_points has_model).dec p q g m z
  unfolding model_points of ◌▸◌ at
  model_no has_model h i = rw h (go (rw h at i))
    where
      go : Fills ((row.points).from 18) (points false 1).dec p q g (sets m 14 (0 ∷ 0 ∷ 0 ∷ 0 ∷ [])) z → Fills ((row.decoder_model_info).from 14 ▸ (row.points).from 18) (model_points false).dec p q g m z
      go (fills r) = begin (decoder_model_info_if false ▷ λ d. points false (d.buffer_delay_length_minus_1 + 1)) (laid (reading.settled_on _ _ no_model _ (completes r)))

  -- with the reduced header
  pub reduced_begins : Fills (row.operating_points 20 1) (point_list true false 1 false 1).dec p q g (sets m 8 (0 ∷ 0 ∷ 0 ∷ 0 ∷ 0 ∷ 0 ∷ 0 ∷ 0 ∷ 0 ∷ 0 ∷ 0 ∷ 0 ∷ [])) z → Laid ((row.general).from 8) reduced_general p q g m z
  unfolding reduced_general reduced_points point_list any_point of ◌▸◌ ◌▹◌ at
  reduced_begins (fills r) = laid (reading.settled_on _ _ no_times _ (reading.struct points_out points_in _ (known_flag_on _ _ _ _ (known_on _ _ _ _ (completes r)))))

-- the width of the delays, which five bits keep below 33
module _ {p q : BitReader} {v : ℕ} (has_model : Bool) {l : Layout (List ℕ) Points} {c s : BitReader} {g : Result Nil Refusal} {m z : List ℕ} where
  pub final_points : Said (f 5 0 0).dec p q (Ok v) → Fills l (points has_model (min (v + 1) 32)).dec c s g m z → Laid l (points has_model (v + 1)) c s g m z
  final_points i r = let w : min (v + 1) 32 ≡ v + 1 = omega (arith, f_fits 5 0 0 i) in final (points has_model (v + 1)) (rw w at r) refl

  pub then_points : {h : Result ℕ Refusal} {x : _} → Said (f 5 0 0).dec p q h → h ≡ result_from_control_flow x → x ≡ Continue v
      → Fills l (points has_model (min (v + 1) 32)).dec c s g m z → Laid l (points has_model (v + 1)) c s g m z
  then_points i e h r = final_points (went i e h) r

pub ruleset beginnings = (fields, no_timing, model_yes, model_no, reduced_begins, final_points, struct_on, group_on)

pub ruleset begin_steps = (grouped_steps, no_timing, model_yes, model_no, reduced_begins, then_points)

pub ruleset begin_exits = (fill_exits, struct_on, group_on)
