use Rattle.bits.specs.Codec.{◌▷◌, via, flag, inferred_flag}
use Rattle.sequence.specs.Color.{mono_planes}
use Rattle.writer.proofs.Walking.{walk}
use Rattle.sequence_writer.proofs.write_color.mono_planes.Goals as goal

pub returns-in_err-flag : goal.returns-in_err-flag
unfolding mono_planes ◌▷◌ via flag inferred_flag
returns-in_err-flag c = search walk depth 14

pub returns-in_err-fixed_sampling : goal.returns-in_err-fixed_sampling
unfolding mono_planes ◌▷◌ via flag inferred_flag
returns-in_err-fixed_sampling c = search walk depth 14

pub returns : goal.returns
unfolding mono_planes ◌▷◌ via flag inferred_flag
returns c = search walk depth 14
