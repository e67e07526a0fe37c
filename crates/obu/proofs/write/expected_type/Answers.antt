use Rattle.bits.specs.Codec.{allowed, f}
use Rattle.writer.proofs.Walking.{walk}
use Rattle.obu.specs.Header.{expected_type}
use Rattle.obu.proofs.write.expected_type.Goals as goal

pub returns-then-obu_type-t : goal.returns-then-obu_type-t
unfolding expected_type allowed f
returns-then-obu_type-t c = search walk depth 14

pub returns : goal.returns
unfolding expected_type allowed f
returns c = search walk depth 14
