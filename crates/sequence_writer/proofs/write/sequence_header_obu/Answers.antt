use Rattle.bits.specs.Codec.{◌▷◌, within, f, flag}
use Rattle.sequence.specs.Sequence.{sequence_header_obu, profile}
use Rattle.writer.proofs.Walking.{walk}
use Rattle.sequence_writer.proofs.write.sequence_header_obu.Goals as goal

pub returns-in_err-profile : goal.returns-in_err-profile
unfolding sequence_header_obu profile ◌▷◌ within f flag
returns-in_err-profile c = search walk depth 14

pub returns-in_err-flag : goal.returns-in_err-flag
unfolding sequence_header_obu profile ◌▷◌ within f flag
returns-in_err-flag c = search walk depth 14

pub returns-in_err-flag-2 : goal.returns-in_err-flag-2
unfolding sequence_header_obu profile ◌▷◌ within f flag
returns-in_err-flag-2 c = search walk depth 14

pub returns : goal.returns
unfolding sequence_header_obu profile ◌▷◌ within f flag
returns c = search walk depth 14
