use Rattle.bits.specs.Codec.{choose, via}
use Rattle.restoration.specs.Restoration.{lr_params, lr_table}
use Rattle.writer.proofs.Walking.{walk_by}
use Rattle.restoration.proofs.write.lr_params.Goals as goal

pub returns-then-is_off : goal.returns-then-is_off
unfolding lr_params lr_table choose via
returns-then-is_off c = search walk_by depth 14

pub returns-then-context-eq1 : goal.returns-then-context-eq1
unfolding lr_params lr_table choose via
returns-then-context-eq1 c = search walk_by depth 14

pub returns : goal.returns
unfolding lr_params lr_table choose via
returns c = search walk_by depth 14
