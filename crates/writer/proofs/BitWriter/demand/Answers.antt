use Rattle.writer.proofs.Walking.{walk}
use Rattle.writer.proofs.BitWriter.demand.Goals as goal

pub returns-then-not-ok : goal.returns-then-not-ok
returns-then-not-ok c = search walk depth 14

pub returns : goal.returns
returns c = search walk depth 14
