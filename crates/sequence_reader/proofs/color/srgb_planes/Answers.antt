use Rattle.reader.proofs.Reading.{by_dec}
use Rattle.fill.proofs.Filling.{begin, struct, struct_on, group_on, known_flag_on, known_on, then_put_no}
use Rattle.sequence.specs.Color.{fixed_sampling, srgb_planes}
use Rattle.sequence_reader.proofs.Steps.{grouped_steps}
use Rattle.sequence_reader.proofs.color.srgb_planes.Goals as goal

pub returns-in_err-n : goal.returns-in_err-n
unfolding srgb_planes fixed_sampling
returns-in_err-n c = search (begin, struct, struct_on, group_on, known_flag_on, known_on, then_put_no, by_dec) depth 20 fits 8000

pub returns : goal.returns
unfolding srgb_planes fixed_sampling
returns c = search grouped_steps depth 14 fits 4000
