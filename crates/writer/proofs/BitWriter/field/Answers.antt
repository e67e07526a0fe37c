use Rattle.writer.proofs.Walking.{field-done, field-refused}
use Rattle.writer.proofs.BitWriter.field.Goals as goal

pub returns-then-not-fits : goal.returns-then-not-fits
returns-then-not-fits c = search field-refused

pub returns : goal.returns
returns c = search field-done
