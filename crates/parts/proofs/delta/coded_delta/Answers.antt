use Rattle.writer.proofs.Walking.{walk}
use Rattle.parts.proofs.Deltas.{coded-packed, coded_then}
use Rattle.parts.proofs.delta.coded_delta.Goals as goal

pub returns-then-code-lt128 : goal.returns-then-code-lt128
returns-then-code-lt128 c = search coded-packed

pub returns-in_err-flag : goal.returns-in_err-flag
returns-in_err-flag c = search walk depth 14

pub returns : goal.returns
returns c = search coded_then
