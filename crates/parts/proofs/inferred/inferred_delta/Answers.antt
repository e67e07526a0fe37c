use Rattle.writer.proofs.Walking.{walk_by}
use Rattle.parts.specs.Codes.{inferred_signed}
use Rattle.parts.proofs.Signs.{same_word}
use Rattle.parts.proofs.inferred.inferred_delta.Goals as goal

pub returns : goal.returns
unfolding inferred_signed
returns c = search (walk_by, same_word)
