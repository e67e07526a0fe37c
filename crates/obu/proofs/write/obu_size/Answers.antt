use Rattle.writer.proofs.Walking.{walk}
use Rattle.obu.specs.Framing.{obu_size}
use Rattle.obu.proofs.write.obu_size.Goals as goal

pub returns-then-has_size_field : goal.returns-then-has_size_field
unfolding obu_size
returns-then-has_size_field c = search walk depth 14

pub returns : goal.returns
unfolding obu_size
returns c = search walk depth 14
