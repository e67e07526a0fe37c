-- How a choice is read, of whatever element, and put into the array.
use mathlib.Core.Path.{◌≡◌, refl}
use mathlib.Core.List.{List, [], ◌∷◌}
use mathlib.Core.Bool.{false}
use Prim.Native.Nat.{ℕ}
use lib.ListN.{set}
use lib.Seq.{sets}
use mir.Val.{bool_byte}
use Rattle.std.specs.Prelude.{Result, Ok}
use Rattle.std.specs.Result.{result_from_control_flow}
use Rattle.std.specs.declared.ops.ControlFlow.TheVariants.{Continue}
use Rattle.bits.specs.Bits.{Bits}
use Rattle.bits.specs.Codec.{Codec, Got, f, absent, inferred, inferred_flag, choose, select, via, ◌▷◌, Nil, nil}
use Rattle.bits.specs.declared.answer.Refusal.{Refusal}
use Rattle.reader.specs.declared.BitReader.{BitReader}
use Rattle.reader.specs.Reading.{Said}
use Rattle.reader.proofs.Reading.{on, went, By, by, read_by, fixed}
use Rattle.fill.specs.Fills.{Layout, same, bit, at, of, ◌▸◌}
use Rattle.fill.proofs.Filling.{Laid, laid, settled}
use Rattle.sequence.specs.declared.group.Choice.{Choice}
use Rattle.sequence.specs.Fields.{choice_out, choice_in, inter_tools_in, hint_tools_in, hint_bits_in}
use Rattle.sequence.specs.Optional.{f_if, flag_if}
use Rattle.sequence.specs.Tools.{choice, no_choice, hint_tools, hint_bits, reduced_motion_tools, reduced_order_tools, reduced_tools}
use Rattle.sequence_reader.specs.Layouts as row
use Rattle.sequence_reader.proofs.Steps.{fields, fill_steps, fill_exits}

pub by_choice : (e : ℕ) → By (choice e) (choice 0).dec
unfolding choice via ◌▷◌ f_if select f inferred
by_choice e = by (λ bs. refl)

pub choice_of : (e : ℕ) {p q : BitReader} {r : Result Choice Refusal} → Said (choice 0).dec p q r → Said (choice e).dec p q r
choice_of e s = read_by (choice e) s (by_choice e)

module _ {B : Type 0} (j : Layout (List ℕ) B) {p q s : BitReader} {g : Result Nil Refusal} {m z : List ℕ} (i o : ℕ) (t : Codec Choice) (k : Choice → Codec B) {a : Choice} where
  pub choice_on : Said t.dec p q (Ok a) → Laid j (k a) q s g (set (set m i (bool_byte a.seq_choose)) o a.seq_force) z → Laid (of choice_out choice_in (at 0 i bit ▸ at 0 o same) ▸ j) (t ▷ k) p s g m z
  unfolding of at ◌▸◌
  choice_on r (laid c) = laid (on t k r c)

  pub then_choice : {d : Bits → Got Choice} {h : Result Choice Refusal} {x : _} → Said d p q h → By t d → h ≡ result_from_control_flow x → x ≡ Continue a
      → Laid j (k a) q s g (set (set m i (bool_byte a.seq_choose)) o a.seq_force) z → Laid (of choice_out choice_in (at 0 i bit ▸ at 0 o same) ▸ j) (t ▷ k) p s g m z
  then_choice r b e f c = choice_on (read_by t (went r e f) b) c

-- the tools of the reduced header, none of which is coded
pub reduced : {p : BitReader} {m z : List ℕ} → z ≡ sets m 318 (0 ∷ 0 ∷ 0 ∷ 0 ∷ 0 ∷ 0 ∷ 0 ∷ 0 ∷ 2 ∷ 0 ∷ 2 ∷ 0 ∷ 0 ∷ []) → Laid ((row.inter_tools).from 318) reduced_tools p p (Ok nil) m z
unfolding reduced_tools reduced_order_tools reduced_motion_tools hint_tools no_choice hint_bits flag_if via ◌▷◌ choose select absent inferred inferred_flag at of ◌▸◌
reduced e = settled _ (inter_tools_in (false, (false, (false, (false, (false, (hint_tools_in (false, false), (choice_in (false, 2), (choice_in (false, 2), hint_bits_in (0, 0)))))))))) (fixed (λ bs. refl)) e

pub ruleset choices = (fields, choice_of, choice_on, reduced)

pub ruleset choice_steps = (fill_steps, by_choice, then_choice, reduced)
