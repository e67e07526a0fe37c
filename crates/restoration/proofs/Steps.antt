-- How the functions of 5.9.20 meet their tables.
use mathlib.Core.Path.{◌≡◌, ap}
use mathlib.Core.Bool.{Bool, true, false, not}
use Prim.Native.Nat.{ℕ, ◌+◌, ◌-◌, ◌*◌, ◌<◌}
use native.Mathlib.Omega.{arith}
use borrow.Author.Tests.{lt-ltb, le-ltb, eq-eqb, ne_eqb}
use Rattle.bits.specs.Walk.{field, mark, run}
use Rattle.bits.specs.Codec.{f, flag, absent, choose, checked, merged, ◌▷◌}
use Rattle.bits.specs.Elements.{lr_unit_shift}
use Rattle.bits.specs.declared.answer.Refusal.{Refusal}
use Rattle.bits.specs.declared.answer.Refusal.TheVariants.{Inconsistent, Unfit}
use Rattle.writer.specs.Walked.{Walked}
use Rattle.writer.specs.declared.BitWriter.{BitWriter}
use Rattle.writer.proofs.Walking.{Answer as Step}
use Rattle.std.specs.Prelude.{Err}
use Rattle.std.specs.Result.{IsErrAnd, result_from_control_flow}
use Rattle.std.proofs.Common.{Continue, Break}
use Rattle.bits.proofs.Leaves.{field-run}
use Rattle.writer.proofs.Walking.{on, off, halt_here, held_then, broken}
use Rattle.restoration.specs.Restoration.{large_shift, small_shift, uv_shift, used, chroma_used, Uses, uses, kinds}
use Rattle.restoration.specs.declared.record.LoopRestorationContext.{LoopRestorationContext}
use Rattle.parts.proofs.Flags.{clear, set}
use Rattle.parts.proofs.Packing.{both_run, by_field}

module _ (v : ℕ) {c : BitWriter} where
  pub large_zero : v ≡ 0 → Walked (large_shift.enc v) c c (Err (Inconsistent lr_unit_shift 0))
  unfolding large_shift checked
  large_zero h = halt_here (broken (ap not (eq-eqb v 0 h)))

  pub large_other : {d : BitWriter} {s : Step} → (v ≡ 0 → ⊥) → Walked (field 1 (v - 1) (Unfit lr_unit_shift 0 0)) c d s → Walked (large_shift.enc v) c d s
  unfolding large_shift checked
  large_other h g = held_then (ap not (ne_eqb v 0 h)) (rw (ne_eqb v 0 h) g)

module _ (v : ℕ) {c d : BitWriter} {s : Step} where
  pub small_zero : v ≡ 0 → Walked (mark false) c d s → Walked (small_shift.enc v) c d s
  unfolding small_shift merged ◌▷◌ flag choose absent f
  small_zero h g = clear (le-ltb 0 v (omega arith)) g

  pub small_halt : {r : Step} {k n : _} → (v ≡ 0 → ⊥) → Walked (mark true) c d s → s ≡ result_from_control_flow k → k ≡ Break n → IsErrAnd r (λ y. y ≡ n.0) → Walked (small_shift.enc v) c d r
  unfolding small_shift merged ◌▷◌ flag choose absent f
  small_halt h g e q z = set (lt-ltb 0 v (omega arith)) (off g e q z)

  pub small_coded : {far : BitWriter} {t : Step} {k : _} {x : Unit {0}} → (v ≡ 0 → ⊥) → Walked (mark true) c d s → s ≡ result_from_control_flow k → k ≡ Continue x
      → Walked (field 1 (v - 1) (Unfit lr_unit_shift 0 0)) d far t → Walked (small_shift.enc v) c far t
  unfolding small_shift merged ◌▷◌ flag choose absent f
  small_coded h g e q k = set (lt-ltb 0 v (omega arith)) (on g e q k)

-- tests that functions make
pub uv_by : (a b : Bool) (v : ℕ) {c d : BitWriter} {s : Step} → a ≡ b → Walked ((uv_shift a).enc v) c d s → Walked ((uv_shift b).enc v) c d s
uv_by a b v h g = rw h at g

module _ (context : LoopRestorationContext) (v : Uses) {c d : BitWriter} {s : Step} where
  pub one_by : (restored : Bool) (y : ℕ) → restored ≡ used y false → Walked ((uses context restored false).enc v) c d s → Walked ((uses context (used y false) false).enc v) c d s
  one_by restored y h g = rw h at g

  pub three_by : (restored chroma : Bool) (y u w : ℕ) → chroma ≡ chroma_used u w → restored ≡ used y chroma → Walked ((uses context restored chroma).enc v) c d s
      → Walked ((uses context (used y (chroma_used u w)) (chroma_used u w)).enc v) c d s
  three_by restored chroma y u w h q g = rw (← h, ← q) g

-- whether planes are used
pub used-not : (y : ℕ) (chroma : Bool) → y ≡ 0 → chroma ≡ used y chroma
used-not y chroma h = rw (eq-eqb y 0 h)

pub used_yes : (y : ℕ) (chroma : Bool) → (y ≡ 0 → ⊥) → true ≡ used y chroma
used_yes y chroma h = rw (ne_eqb y 0 h)

-- the three kinds in one field
pub kinds-packed : (y u v : ℕ) {r : Refusal} {c d : BitWriter} {s : Step} → y < 4 → u < 4 → v < 4 → Walked (field 6 (y * 16 + (u * 4 + v)) r) c d s → Walked (kinds.enc (y, (u, v))) c d s
unfolding kinds ◌▷◌ f run
kinds-packed y u v h k l g =
    let x = both_run 2 2 u v (field-run 2 u _ k) (field-run 2 v _ l) l in
    by_field 6 (y * 16 + (u * 4 + v)) (both_run 2 4 y (u * 4 + v) (field-run 2 y _ h) x (omega arith)) (omega arith) g
