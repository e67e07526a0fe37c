use Rattle.std.proofs.Common.{rules}
use Rattle.writer.proofs.Blending.{blend-sum, blend_is}
use Rattle.writer.proofs.store.blend.Goals as goal

pub overflow_add-result : goal.overflow_add-result
overflow_add-result c = record { fits = search (rules, blend-sum) }

pub returns : goal.returns
returns c = search (rules, blend_is)
