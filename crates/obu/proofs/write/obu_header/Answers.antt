use Rattle.bits.specs.Codec.{◌▷◌, via, flag, zeros}
use Rattle.writer.proofs.Walking.{walk}
use Rattle.obu.specs.Header.{obu_header, header_table}
use Rattle.obu.proofs.write.obu_header.Goals as goal

pub returns-in_err-zero : goal.returns-in_err-zero
unfolding obu_header header_table ◌▷◌ via flag zeros
returns-in_err-zero c = search walk depth 14

pub returns-in_err-expected_type : goal.returns-in_err-expected_type
unfolding obu_header header_table ◌▷◌ via flag zeros
returns-in_err-expected_type c = search walk depth 14

pub returns-in_err-flag : goal.returns-in_err-flag
unfolding obu_header header_table ◌▷◌ via flag zeros
returns-in_err-flag c = search walk depth 14

pub returns : goal.returns
unfolding obu_header header_table ◌▷◌ via flag zeros
returns c = search walk depth 14
