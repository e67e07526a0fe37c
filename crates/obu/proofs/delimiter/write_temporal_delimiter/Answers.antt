use mathlib.Core.Path.{refl}
use Rattle.writer.proofs.Walking.{lent}
use Rattle.obu.proofs.Writing.{ended, filled, no_refusal}
use Rattle.obu.proofs.Delimiters.{plain_writes, few}
use Rattle.obu.proofs.delimiter.write_temporal_delimiter.Goals as goal

pub returns-then-not-header : goal.returns-then-not-header
returns-then-not-header c = search plain_writes

pub returns-in_err-count : goal.returns-in_err-count
returns-in_err-count c = search (ended, few)

pub returns-in_err-temporal_delimiter : goal.returns-in_err-temporal_delimiter
returns-in_err-temporal_delimiter c = search (no_refusal, few)

pub returns : goal.returns
returns c = filled c.args.out.now (few c.args.header) refl c.temporal_delimiter-walk.ensures c.verdict.ensures c.branch-count.ensures c.in_ok-count.is c.temporal_delimiter.ensures refl refl (lent c.temporal_delimiter.ensures c.out-2-1.given)
