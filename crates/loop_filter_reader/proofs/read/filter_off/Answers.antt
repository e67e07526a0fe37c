use Rattle.loop_filter_reader.specs.Layout.{levels_place, chroma_place, rest_place, update_place}
use Rattle.fill.specs.Fills.{at, ◌▸◌}
use Rattle.numbers.specs.Numbers.{joined}
use Rattle.loop_filter_reader.proofs.read.filter_off.Goals as goal

pub returns : goal.returns
unfolding levels_place chroma_place rest_place update_place at ◌▸◌ joined
returns c = rw c.copy_from_slice.ensures.after at c.kept_deltas.ensures
