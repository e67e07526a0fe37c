use Rattle.bits.specs.Codec.{◌▷◌}
use Rattle.sequence.specs.Sequence.{body}
use Rattle.writer.proofs.Walking.{walk}
use Rattle.sequence_writer.proofs.write.body.Goals as goal

pub returns-in_err-general : goal.returns-in_err-general
unfolding body ◌▷◌
returns-in_err-general c = search walk depth 14

pub returns-in_err-frame_size : goal.returns-in_err-frame_size
unfolding body ◌▷◌
returns-in_err-frame_size c = search walk depth 14

pub returns-in_err-frame_ids : goal.returns-in_err-frame_ids
unfolding body ◌▷◌
returns-in_err-frame_ids c = search walk depth 14

pub returns : goal.returns
unfolding body ◌▷◌
returns c = search walk depth 14
