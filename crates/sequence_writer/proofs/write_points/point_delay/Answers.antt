use Rattle.bits.specs.Codec.{◌▷◌, choose, via, f, flag, absent}
use Rattle.sequence.specs.Points.{point_delay}
use Rattle.writer.proofs.Walking.{walk}
use Rattle.sequence_writer.proofs.write_points.point_delay.Goals as goal

pub returns-then-not-has_delay : goal.returns-then-not-has_delay
unfolding point_delay ◌▷◌ choose via f flag absent
returns-then-not-has_delay c = search walk depth 14

pub returns-in_err-flag : goal.returns-in_err-flag
unfolding point_delay ◌▷◌ choose via f flag absent
returns-in_err-flag c = search walk depth 14

pub returns-then-present : goal.returns-then-present
unfolding point_delay ◌▷◌ choose via f flag absent
returns-then-present c = search walk depth 14

pub returns : goal.returns
unfolding point_delay ◌▷◌ choose via f flag absent
returns c = search walk depth 14
