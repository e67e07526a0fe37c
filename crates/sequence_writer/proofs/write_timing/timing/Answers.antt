use Rattle.bits.specs.Codec.{◌▷◌, select, via, flag, inferred_flag}
use Rattle.sequence.specs.Optional.{flag_if}
use Rattle.sequence.specs.Timing.{timing}
use Rattle.writer.proofs.Walking.{walk}
use Rattle.sequence_writer.proofs.write_timing.timing.Goals as goal

pub returns-in_err-flag : goal.returns-in_err-flag
unfolding timing flag_if ◌▷◌ select via flag inferred_flag
returns-in_err-flag c = search walk depth 14

pub returns-in_err-timing_info_if : goal.returns-in_err-timing_info_if
unfolding timing flag_if ◌▷◌ select via flag inferred_flag
returns-in_err-timing_info_if c = search walk depth 14

pub returns-in_err-flag_if : goal.returns-in_err-flag_if
unfolding timing flag_if ◌▷◌ select via flag inferred_flag
returns-in_err-flag_if c = search walk depth 14

pub returns : goal.returns
unfolding timing flag_if ◌▷◌ select via flag inferred_flag
returns c = search walk depth 14
