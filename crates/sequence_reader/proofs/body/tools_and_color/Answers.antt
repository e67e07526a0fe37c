use Rattle.sequence.specs.Sequence.{tools_and_color}
use Rattle.sequence_reader.proofs.Steps.{fill_exits, fill_steps}
use Rattle.sequence_reader.proofs.body.tools_and_color.Goals as goal

pub returns-in_err-block_tools : goal.returns-in_err-block_tools
unfolding tools_and_color
returns-in_err-block_tools c = search fill_exits depth 14 fits 4000

pub returns-in_err-inter_tools : goal.returns-in_err-inter_tools
unfolding tools_and_color
returns-in_err-inter_tools c = search fill_exits depth 14 fits 4000

pub returns-in_err-filter_tools : goal.returns-in_err-filter_tools
unfolding tools_and_color
returns-in_err-filter_tools c = search fill_exits depth 14 fits 4000

pub returns : goal.returns
unfolding tools_and_color
returns c = search fill_steps depth 14 fits 4000
