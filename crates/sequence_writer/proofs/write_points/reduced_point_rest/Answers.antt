use mathlib.Core.Path.{◌≡◌, refl}
use mathlib.Core.List.{[]}
use mathlib.Core.Bool.{Bool, true, false, cond}
use Rattle.bits.specs.Walk.{Out, demand, wrote, join, run}
use Rattle.bits.specs.Codec.{◌▷◌, choose, select, via, absent, flag, inferred_flag, same_flag}
use Rattle.bits.specs.Elements.{decoder_model_present_for_this_op}
use Rattle.bits.specs.declared.answer.Refusal.{Refusal}
use Rattle.bits.specs.declared.answer.Refusal.TheVariants.{Inconsistent}
use Rattle.writer.specs.Walked.{Walked}
use Rattle.writer.specs.declared.BitWriter.{BitWriter}
use Rattle.writer.proofs.Walking.{Answer, walk, as_run}
use Rattle.sequence.specs.declared.group.PointModel.{PointModel}
use Rattle.sequence.specs.Optional.{flag_if}
use Rattle.sequence.specs.Points.{point_model, reduced_point_rest}
use Rattle.sequence_writer.proofs.write_points.reduced_point_rest.Goals as goal

-- a flag that must be 0 says that there are no parameters
none-behind : (t : Bool) (r : Refusal) (o : Out) → run (demand (same_flag t false) r) ≡ join (run (demand (same_flag t false) r)) (cond t o (wrote []))
unfolding run join
none-behind true r o = refl
none-behind false r o = refl

no_model : (m : PointModel) {a b : BitWriter} {s : Answer} → Walked ((inferred_flag decoder_model_present_for_this_op 0 false).enc m.decoder_model_present_for_this_op) a b s → Walked ((point_model false 0 0).enc m) a b s
unfolding point_model flag_if ◌▷◌ choose select via absent flag inferred_flag run
no_model m g = as_run (none-behind m.decoder_model_present_for_this_op (Inconsistent decoder_model_present_for_this_op 0) _) g

pub returns-in_err-unset : goal.returns-in_err-unset
unfolding reduced_point_rest ◌▷◌ absent
returns-in_err-unset c = search (walk, no_model) depth 14

pub returns : goal.returns
unfolding reduced_point_rest ◌▷◌ absent
returns c = search (walk, no_model) depth 14
