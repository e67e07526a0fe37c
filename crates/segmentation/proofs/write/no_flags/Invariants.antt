use mathlib.Core.Bool.{false}
use Rattle.bits.specs.Codec.{inferred_flag}
use Rattle.bits.specs.Elements.{feature_enabled}
use Rattle.writer.proofs.Loops.{Each}
use Rattle.segmentation.specs.Segmentation.{no_flags}
use Rattle.segmentation.proofs.write.no_flags.Given as goal

abbrev pub invariant-loop-enabled : goal.invariant-loop-enabled
invariant-loop-enabled l = Each (no_flags.enc l.fn.p.feature_enabled) l.fn.w false (λ _. inferred_flag feature_enabled 0 false) 64 64 l.fn.p.feature_enabled l.enabled-index l.w
