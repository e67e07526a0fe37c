use Rattle.bits.specs.Codec.{◌▷◌, via, inferred, inferred_flag}
use Rattle.sequence.specs.Color.{fixed_sampling}
use Rattle.writer.proofs.Walking.{walk}
use Rattle.sequence_writer.proofs.write_color.fixed_sampling.Goals as goal

pub returns-in_err-inferred_flag : goal.returns-in_err-inferred_flag
unfolding fixed_sampling ◌▷◌ via inferred inferred_flag
returns-in_err-inferred_flag c = search walk depth 14

pub returns-in_err-inferred_flag-2 : goal.returns-in_err-inferred_flag-2
unfolding fixed_sampling ◌▷◌ via inferred inferred_flag
returns-in_err-inferred_flag-2 c = search walk depth 14

pub returns : goal.returns
unfolding fixed_sampling ◌▷◌ via inferred inferred_flag
returns c = search walk depth 14
