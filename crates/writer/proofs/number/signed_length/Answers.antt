use Rattle.std.proofs.Common.{rules}
use Rattle.bits.proofs.Signs.{same}
use Rattle.writer.proofs.SuCodes.{place_length}
use Rattle.writer.proofs.number.signed_length.Goals as goal

pub returns : goal.returns
returns c = search (rules, place_length, same)
