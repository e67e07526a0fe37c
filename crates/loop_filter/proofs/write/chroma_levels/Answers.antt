use Rattle.bits.specs.Codec.{◌▷◌, choose, f, absent}
use Rattle.loop_filter.specs.LoopFilter.{chroma_levels}
use Rattle.writer.proofs.Walking.{walk}
use Rattle.loop_filter.proofs.write.chroma_levels.Goals as goal

pub returns-then-coded : goal.returns-then-coded
unfolding chroma_levels ◌▷◌ choose f absent
returns-then-coded c = search walk depth 14

pub returns : goal.returns
unfolding chroma_levels ◌▷◌ choose f absent
returns c = search walk depth 14
