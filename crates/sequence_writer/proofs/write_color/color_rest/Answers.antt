use Rattle.bits.specs.Codec.{◌▷◌, select, via, f, flag, inferred}
use Rattle.sequence.specs.Optional.{f_if}
use Rattle.sequence.specs.Color.{color_rest, color_description, color_values}
use Rattle.writer.proofs.Walking.{walk}
use Rattle.sequence_writer.proofs.write_color.color_rest.Goals as goal

pub returns-in_err-color_description : goal.returns-in_err-color_description
unfolding color_rest color_description color_values f_if ◌▷◌ select via f flag inferred
returns-in_err-color_description c = search walk depth 14

pub returns-in_err-planes : goal.returns-in_err-planes
unfolding color_rest color_description color_values f_if ◌▷◌ select via f flag inferred
returns-in_err-planes c = search walk depth 14

pub returns : goal.returns
unfolding color_rest color_description color_values f_if ◌▷◌ select via f flag inferred
returns c = let g = rw c.plane_count.ensures at c.demand.ensures in search walk depth 14
