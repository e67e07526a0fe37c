use Rattle.bits.specs.Codec.{◌▷◌, via, f, flag}
use Rattle.sequence.specs.Timing.{timing_info}
use Rattle.writer.proofs.Walking.{walk}
use Rattle.sequence_writer.proofs.write_timing.timing_info.Goals as goal

pub returns-in_err-f : goal.returns-in_err-f
unfolding timing_info ◌▷◌ via f flag
returns-in_err-f c = search walk depth 14

pub returns-in_err-f-2 : goal.returns-in_err-f-2
unfolding timing_info ◌▷◌ via f flag
returns-in_err-f-2 c = search walk depth 14

pub returns-in_err-flag : goal.returns-in_err-flag
unfolding timing_info ◌▷◌ via f flag
returns-in_err-flag c = search walk depth 14

pub returns : goal.returns
unfolding timing_info ◌▷◌ via f flag
returns c = search walk depth 14
