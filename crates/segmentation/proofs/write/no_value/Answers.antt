use Rattle.writer.proofs.Walking.{walk_by}
use Rattle.parts.specs.Codes.{inferred_signed}
use Rattle.parts.proofs.Signs.{zero_word}
use Rattle.segmentation.proofs.write.no_value.Goals as goal

pub returns : goal.returns
unfolding inferred_signed
returns c = search (walk_by, zero_word) depth 14
