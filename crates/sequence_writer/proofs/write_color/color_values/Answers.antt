use Rattle.bits.specs.Codec.{◌▷◌}
use Rattle.sequence.specs.Color.{color_values}
use Rattle.writer.proofs.Walking.{walk}
use Rattle.sequence_writer.proofs.write_color.color_values.Goals as goal

pub returns-in_err-f_if : goal.returns-in_err-f_if
unfolding color_values ◌▷◌
returns-in_err-f_if c = search walk depth 14

pub returns-in_err-f_if-2 : goal.returns-in_err-f_if-2
unfolding color_values ◌▷◌
returns-in_err-f_if-2 c = search walk depth 14

pub returns : goal.returns
unfolding color_values ◌▷◌
returns c = search walk depth 14
