use mathlib.Core.Path.{refl}
use Rattle.restoration.specs.Restoration.{shifts}
use Rattle.restoration_reader.specs.Layout.{shifts_place}
use Rattle.fill.proofs.Filling.{begin}
use Rattle.parts_reader.proofs.Storing.{put_fit, fit_last}
use Rattle.restoration_reader.proofs.Restoring.{unit_fits, uv_fits}
use Rattle.restoration_reader.proofs.read.shifts.Goals as goal

pub returns : goal.returns
unfolding shifts shifts_place
returns c =
    let v = rw c.codes_uv_shift.ensures at c.in_ok-n-2.ensures in
    begin _ (put_fit _ _ c.in_ok-n.ensures (unit_fits _ c.in_ok-n.ensures) _ _ (fit_last _ _ v (uv_fits _ v) refl))
