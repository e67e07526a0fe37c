use mathlib.Core.Path.{refl, sym, ◌∙◌}
use Rattle.restoration.specs.Restoration.{lr_params, lr_table}
use Rattle.restoration_reader.specs.Layout.{lr_place}
use Rattle.fill.proofs.Filling.{begin, struct, yes}
use Rattle.restoration_reader.proofs.Restoring.{none_restored}
use Rattle.restoration_reader.proofs.read.lr_params.Goals as goal

pub returns-then-is_off : goal.returns-then-is_off
unfolding lr_params lr_table lr_place
returns-then-is_off c = begin _ (struct _ _ _ _ (λ a. refl) (yes _ _ _ (sym c.is_off.ensures ∙ c.if-is_off.true) none_restored))
