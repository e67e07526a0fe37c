use mathlib.Core.Path.{◌≡◌}
use mathlib.Core.Bool.{◌&&◌}
use Rattle.bits.specs.Codec.{◌▷◌, select, via, flag, inferred_flag}
use Rattle.sequence.specs.Optional.{flag_if}
use Rattle.sequence.specs.Color.{sampling}
use Rattle.writer.proofs.Walking.{walk}
use Rattle.sequence_writer.proofs.write_color.sampling.Goals.{Joined-twelve, Joined-x, then-twelve, else-twelve, then-x, else-x}
use Rattle.sequence_writer.proofs.write_color.sampling.Goals as goal

pub returns-in_err-flag_if : goal.returns-in_err-flag_if
unfolding sampling flag_if ◌▷◌ select via flag inferred_flag
returns-in_err-flag_if c = search walk depth 14

-- the two conditions
y_coded : (c : Joined-twelve) → c.if-twelve.flag_if ≡ (c.args.twelve && c.args.color.subsampling_x)
y_coded c = elim c.if-twelve.branch [ then-twelve w ↦ cc | else-twelve w ↦ cc ]

position_coded : (c : Joined-x) → c.if-x.f_if ≡ (c.args.color.subsampling_x && c.args.color.subsampling_y)
position_coded c = elim c.if-x.branch [ then-x w ↦ cc | else-x w ↦ cc ]

pub returns-in_err-flag_if-2 : goal.returns-in_err-flag_if-2
unfolding sampling flag_if ◌▷◌ select via flag inferred_flag
returns-in_err-flag_if-2 c = let g = rw (y_coded (goal.at.returns-in_err-flag_if-2 c).Joined-twelve) at c.flag_if-2.ensures in search walk depth 14

pub returns : goal.returns
unfolding sampling flag_if ◌▷◌ select via flag inferred_flag
returns c =
    let g = rw (y_coded (goal.at.returns c).Joined-twelve) at c.flag_if-2.ensures in
    let h = rw (position_coded (goal.at.returns c).Joined-x) at c.f_if.ensures in
    search walk depth 14
