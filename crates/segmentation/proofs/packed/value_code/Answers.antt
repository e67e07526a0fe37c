use Rattle.segmentation.proofs.Steps.{code_signed, code_unsigned, code_small}
use Rattle.segmentation.proofs.packed.value_code.Goals as goal

pub returns-then-j-lt5-clause-value : goal.returns-then-j-lt5-clause-value
returns-then-j-lt5-clause-value c = search code_signed

pub returns-then-j-lt5-clause-upper_bound : goal.returns-then-j-lt5-clause-upper_bound
returns-then-j-lt5-clause-upper_bound c = rw (returns-then-j-lt5-clause-value c) (code_small c.args.j c.args.v)

pub returns-clause-value : goal.returns-clause-value
returns-clause-value c = search code_unsigned
