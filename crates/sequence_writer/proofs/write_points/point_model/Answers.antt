use Rattle.bits.specs.Codec.{◌▷◌, choose, select, via, flag, absent, inferred_flag}
use Rattle.sequence.specs.Optional.{flag_if}
use Rattle.sequence.specs.Points.{point_model}
use Rattle.writer.proofs.Walking.{walk}
use Rattle.sequence_writer.proofs.write_points.point_model.Goals as goal

pub returns-in_err-flag_if : goal.returns-in_err-flag_if
unfolding point_model flag_if ◌▷◌ choose select via flag absent inferred_flag
returns-in_err-flag_if c = search walk depth 14

pub returns-then-present : goal.returns-then-present
unfolding point_model flag_if ◌▷◌ choose select via flag absent inferred_flag
returns-then-present c = search walk depth 14

pub returns : goal.returns
unfolding point_model flag_if ◌▷◌ choose select via flag absent inferred_flag
returns c = search walk depth 14
