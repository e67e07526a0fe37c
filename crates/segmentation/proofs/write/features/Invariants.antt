use mathlib.Core.Bool.{false}
use lib.IntN.{pos}
use Rattle.writer.proofs.Loops.{Each}
use Rattle.parts.specs.Codes.{zip}
use Rattle.segmentation.specs.Segmentation.{feature, features, features_out}
use Rattle.segmentation.proofs.write.features.Given as goal

abbrev pub invariant-loop-i : goal.invariant-loop-i
invariant-loop-i l = Each (features.enc (features_out l.p)) l.fn.w (false, pos 0) feature 64 64 (zip false (pos 0) l.p.feature_enabled l.p.feature_data) l.i l.w
