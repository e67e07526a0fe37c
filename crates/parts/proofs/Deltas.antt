-- A set flag and a delta, as the code writes them.
use mathlib.Core.Path.{◌≡◌, refl}
use mathlib.Core.Bool.{true}
use Prim.Native.Nat.{ℕ, ◌+◌, ◌<◌, min}
use lib.IntN.{ℤ}
use mir.Syntax.{w32}
use mir.Val.{SFits, to_z, of_z}
use Rattle.bits.specs.Walk.{field, mark, ◌⊕◌}
use Rattle.bits.specs.Codes.{su, su_out}
use Rattle.bits.specs.declared.answer.Refusal.{Refusal}
use Rattle.writer.specs.Walked.{Walked}
use Rattle.writer.specs.declared.BitWriter.{BitWriter}
use Rattle.writer.proofs.Walking.{Answer as Step}
use Rattle.std.specs.Result.{result_from_control_flow}
use Rattle.std.proofs.Common.{Continue}
use Rattle.writer.proofs.Walking.{on}
use Rattle.parts.proofs.Signs.{word, su-run}
use Rattle.parts.proofs.Packing.{flag-field}

module _ (e i : ℕ) (z : ℤ) {c d : BitWriter} {s : Step} (f : SFits w32 z) where
  pub coded-packed : (code : ℕ) {r : Refusal} → code ≡ su_out 7 (to_z w32 (of_z w32 z)) → code < 128 → Walked (field 8 (128 + code) r) c d s → Walked (mark true ⊕ (su 7 e i).enc z) c d s
  coded-packed code q l g = flag-field 7 128 code refl (su-run 7 code e i z (rw (word w32 z f.sfits) at q) l) l g

  pub coded_then : {far : BitWriter} {t : Step} {k : _} {x : Unit {0}} → Walked (mark true) c d s → s ≡ result_from_control_flow k → k ≡ Continue x → Walked ((su (min 7 32) e i).enc (to_z w32 (of_z w32 z))) d far t → Walked (mark true ⊕ (su 7 e i).enc z) c far t
  coded_then g q h k = on g q h (rw (word w32 z f.sfits) at k)
