use Rattle.bits.specs.Codec.{◌▷◌, choose, flag, zeros, absent}
use Rattle.writer.proofs.Walking.{walk}
use Rattle.obu.specs.Header.{header_end}
use Rattle.obu.proofs.write.header_end.Goals as goal

pub returns-in_err-flag : goal.returns-in_err-flag
unfolding header_end ◌▷◌ choose flag zeros absent
returns-in_err-flag c = search walk depth 14

pub returns-in_err-zero : goal.returns-in_err-zero
unfolding header_end ◌▷◌ choose flag zeros absent
returns-in_err-zero c = search walk depth 14

pub returns-then-h : goal.returns-then-h
unfolding header_end ◌▷◌ choose flag zeros absent
returns-then-h c = search walk depth 14

pub returns : goal.returns
unfolding header_end ◌▷◌ choose flag zeros absent
returns c = search walk depth 14
