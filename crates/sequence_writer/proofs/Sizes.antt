-- Widths that a record says: what a field of it wrote is small, so that one more bit is a number of the code.
use mathlib.Core.Path.{◌≡◌}
use mathlib.Core.Bool.{true}
use Prim.Native.Nat.{ℕ, ◌+◌, ◌^◌, ◌<◌, ◌≤◌}
use native.Mathlib.Omega.{arith}
use lib.Pow.{pow_mono}
use borrow.Author.Tests.{lt-ltb}
use Rattle.bits.specs.Walk.{field}
use Rattle.bits.specs.Codec.{◌▷◌, select, via, flag, inferred_flag}
use Rattle.bits.specs.declared.answer.Refusal.{Refusal}
use Rattle.std.specs.Result.{result_from_control_flow}
use Rattle.std.proofs.Common.{Continue}
use Rattle.bits.proofs.Passing.{taken}
use Rattle.writer.specs.Walked.{Walked}
use Rattle.writer.specs.declared.BitWriter.{BitWriter}
use Rattle.writer.proofs.Walking.{Answer, went, field_went}
use Rattle.sequence.specs.declared.record.SequenceHeaderObu.{SequenceHeaderObu}
use Rattle.sequence.specs.Fields.{timing_of}
use Rattle.sequence.specs.Optional.{flag_if}
use Rattle.sequence.specs.Timing.{decoder_model_info_if, timing}
use Rattle.sequence.specs.Frame.{bits_hold}
use Rattle.sequence.proofs.Laws.{timing_law}
use Rattle.sequence.proofs.Counts.{timing_width}

-- 32 bits hold every size
pub wide_holds : (bits_minus_1 size : ℕ) → 31 ≤ bits_minus_1 → size < 2 ^ 32 → true ≡ bits_hold bits_minus_1 size
wide_holds b size h few = let k : 2 ^ 32 ≤ 2 ^ (b + 1) = pow_mono {i = 32} (omega arith) in rw (lt-ltb size (2 ^ (b + 1)) (omega arith))

-- what a `?` on a field, and on the timing, says
module _ {a b : BitWriter} {s : Answer} {k : _} {x : Unit {0}} (e : s ≡ result_from_control_flow k) (q : k ≡ Continue x) where
  pub field_few : {n v : ℕ} {r : Refusal} → Walked (field n v r) a b s → v < 2 ^ n
  field_few g = field_went g (taken k e q)

  -- the buffer delays, where the timing was written
  pub delay_few : (h : SequenceHeaderObu) → Walked (timing.enc (timing_of h)) a b s
      → ((decoder_model_info_if h.decoder_model_info_present_flag).coded h.decoder_model_info).buffer_delay_length_minus_1 < 32
  unfolding timing flag_if ◌▷◌ select via flag inferred_flag
  delay_few h g = timing_width (timing_of h) _ (timing_law.own (timing_of h) _ (went g (taken k e q)))
