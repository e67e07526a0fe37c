use mathlib.Core.Path.{refl}
use Rattle.restoration.specs.Restoration.{uses}
use Rattle.restoration_reader.specs.Layout.{uses_place, shifts_place}
use Rattle.fill.proofs.Filling.{begin, no, nothing_pair}
use Rattle.parts_reader.proofs.Storing.{known_bit_on}
use Rattle.restoration_reader.proofs.read.uses.Goals as goal

pub returns : goal.returns
unfolding uses uses_place shifts_place
returns c = begin _ (known_bit_on _ _ _ _ _ _ (known_bit_on _ _ _ _ _ _ (no _ _ _ c.if-restored.false (nothing_pair _ _ _ _ _ _ _ refl))))
