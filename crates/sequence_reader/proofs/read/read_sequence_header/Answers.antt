use Rattle.sequence_reader.proofs.Answering.{answer-done, answer-not}
use Rattle.sequence_reader.proofs.read.read_sequence_header.Goals as goal

pub returns-in_err-one_obu : goal.returns-in_err-one_obu
returns-in_err-one_obu c = answer-not _ c.in_err-one_obu.ensures c.from_residual.ensures.1

pub returns : goal.returns
returns c = answer-done _ c.in_ok-one_obu.ensures
