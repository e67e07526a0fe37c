use mathlib.Core.Path.{◌≡◌, ◌∙◌}
use mathlib.Core.Bool.{◌&&◌}
use lib.Dec.{eqb}
use borrow.Author.Tests.{eq-eqb, ne_eqb}
use Rattle.bits.specs.Codec.{◌▷◌, select, via, flag, inferred_flag}
use Rattle.sequence.specs.Optional.{flag_if}
use Rattle.sequence.specs.Color.{color_config}
use Rattle.writer.proofs.Walking.{walk}
use Rattle.sequence_writer.proofs.write_color.color_config.Goals.{Joined-profile-eq2, then-profile-eq2, else-profile-eq2}
use Rattle.sequence_writer.proofs.write_color.color_config.Goals as goal

pub returns-in_err-flag : goal.returns-in_err-flag
unfolding color_config flag_if ◌▷◌ select via flag inferred_flag
returns-in_err-flag c = search walk depth 14

-- the condition of twelve_bit
twelve_coded : (c : Joined-profile-eq2) → c.if-profile-eq2.flag_if ≡ (eqb c.args.profile 2 && c.args.color.high_bitdepth)
twelve_coded c =
    let p = c.args.profile in
    elim c.if-profile-eq2.branch [ then-profile-eq2 w ↦ rw (eq-eqb p 2 w.if-profile-eq2.true) w.flag_if-is | else-profile-eq2 w ↦ rw (ne_eqb p 2 w.if-profile-eq2.false) (w.flag_if-is ∙ ne_eqb p 2 w.if-profile-eq2.false) ]

pub returns-in_err-flag_if : goal.returns-in_err-flag_if
unfolding color_config flag_if ◌▷◌ select via flag inferred_flag
returns-in_err-flag_if c = let g = rw (twelve_coded (goal.at.returns-in_err-flag_if c).Joined-profile-eq2) at c.flag_if.ensures in search walk depth 14

pub returns-in_err-flag_if-2 : goal.returns-in_err-flag_if-2
unfolding color_config flag_if ◌▷◌ select via flag inferred_flag
returns-in_err-flag_if-2 c = let g = rw (twelve_coded (goal.at.returns-in_err-flag_if-2 c).Joined-profile-eq2) at c.flag_if.ensures in search walk depth 14

pub returns : goal.returns
unfolding color_config flag_if ◌▷◌ select via flag inferred_flag
returns c = let g = rw (twelve_coded (goal.at.returns c).Joined-profile-eq2) at c.flag_if.ensures in search walk depth 14
