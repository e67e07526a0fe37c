use lib.IntN.{pos}
use Rattle.bits.specs.Elements.{feature_data}
use Rattle.writer.proofs.Loops.{Each}
use Rattle.parts.specs.Codes.{inferred_signed}
use Rattle.segmentation.specs.Segmentation.{no_data}
use Rattle.segmentation.proofs.write.no_data.Given as goal

abbrev pub invariant-loop-value : goal.invariant-loop-value
invariant-loop-value l = Each (no_data.enc l.fn.p.feature_data) l.fn.w (pos 0) (λ _. inferred_signed feature_data (pos 0)) 64 64 l.fn.p.feature_data l.value-index l.w
