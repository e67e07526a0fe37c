use Rattle.bits.specs.Codec.{choose}
use Rattle.sequence.specs.Color.{planes}
use Rattle.writer.proofs.Walking.{walk_by}
use Rattle.sequence_writer.proofs.write_color.planes.Goals as goal

pub returns-then-color : goal.returns-then-color
unfolding planes choose
returns-then-color c = search walk_by depth 14

pub returns-then-srgb : goal.returns-then-srgb
unfolding planes choose
returns-then-srgb c = search walk_by depth 14

pub returns : goal.returns
unfolding planes choose
returns c = search walk_by depth 14
