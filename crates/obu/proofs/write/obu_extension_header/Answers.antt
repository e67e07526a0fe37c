use Rattle.bits.specs.Codec.{◌▷◌, f, zeros}
use Rattle.writer.proofs.Walking.{walk}
use Rattle.obu.specs.Header.{obu_extension_header}
use Rattle.obu.proofs.write.obu_extension_header.Goals as goal

pub returns-in_err-f : goal.returns-in_err-f
unfolding obu_extension_header ◌▷◌ f zeros
returns-in_err-f c = search walk depth 14

pub returns-in_err-f-2 : goal.returns-in_err-f-2
unfolding obu_extension_header ◌▷◌ f zeros
returns-in_err-f-2 c = search walk depth 14

pub returns : goal.returns
unfolding obu_extension_header ◌▷◌ f zeros
returns c = search walk depth 14
