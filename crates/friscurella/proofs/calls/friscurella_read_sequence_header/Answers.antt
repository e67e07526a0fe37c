use mathlib.Core.Path.{ap, ◌∙◌}
use Rattle.bits.specs.Written.{answer_numbers}
use Rattle.friscurella.proofs.Crossing.{read_crosses}
use Rattle.friscurella.proofs.calls.friscurella_read_sequence_header.Goals as goal

pub returns : goal.returns
returns c = read_crosses c.tell.ensures c.args.input.now c.args.record.now (c.into.ensures ∙ ap answer_numbers c.and.ensures) c.read_sequence_header-o.ensures
