use Rattle.bits.specs.Codec.{◌▷◌, choose, select, via, f, flag, absent, inferred_flag}
use Rattle.sequence.specs.Optional.{flag_if}
use Rattle.sequence.specs.Frame.{frame_ids}
use Rattle.writer.proofs.Walking.{walk}
use Rattle.sequence_writer.proofs.write_frame.frame_ids.Goals as goal

pub returns-in_err-flag_if : goal.returns-in_err-flag_if
unfolding frame_ids flag_if ◌▷◌ choose select via f flag absent inferred_flag
returns-in_err-flag_if c = search walk depth 14

pub returns-in_err-f : goal.returns-in_err-f
unfolding frame_ids flag_if ◌▷◌ choose select via f flag absent inferred_flag
returns-in_err-f c = search walk depth 14

pub returns-then-present : goal.returns-then-present
unfolding frame_ids flag_if ◌▷◌ choose select via f flag absent inferred_flag
returns-then-present c = search walk depth 14

pub returns : goal.returns
unfolding frame_ids flag_if ◌▷◌ choose select via f flag absent inferred_flag
returns c = search walk depth 14
