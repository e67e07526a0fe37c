use Rattle.bits.specs.Codec.{◌▷◌}
use Rattle.sequence.specs.Sequence.{tools_and_color}
use Rattle.writer.proofs.Walking.{walk}
use Rattle.sequence_writer.proofs.write.tools_and_color.Goals as goal

pub returns-in_err-block_tools : goal.returns-in_err-block_tools
unfolding tools_and_color ◌▷◌
returns-in_err-block_tools c = search walk depth 14

pub returns-in_err-inter_tools : goal.returns-in_err-inter_tools
unfolding tools_and_color ◌▷◌
returns-in_err-inter_tools c = search walk depth 14

pub returns-in_err-filter_tools : goal.returns-in_err-filter_tools
unfolding tools_and_color ◌▷◌
returns-in_err-filter_tools c = search walk depth 14

pub returns : goal.returns
unfolding tools_and_color ◌▷◌
returns c = search walk depth 14
