use Rattle.writer.proofs.Walking.{walk}
use Rattle.obu.specs.Delimiter.{temporal_delimiter}
use Rattle.obu.proofs.delimiter.temporal_delimiter.Goals as goal

pub returns-in_err-obu_header : goal.returns-in_err-obu_header
unfolding temporal_delimiter
returns-in_err-obu_header c = search walk depth 14

pub returns : goal.returns
unfolding temporal_delimiter
returns c = search walk depth 14
