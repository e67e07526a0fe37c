use native.Mathlib.Omega.{arith}
use Rattle.obu.proofs.Strings.{are_bytes, string_room, string_ended, string_filled}
use Rattle.obu.proofs.delimiter.write_string.Goals as goal

pub returns-in_err-count : goal.returns-in_err-count
returns-in_err-count c = search (string_ended, are_bytes c.args.string.now (λ i. omega (arith, c.type_inv.string i)))

pub copy-requires : goal.copy-requires
copy-requires c = search string_room

pub returns : goal.returns
returns c =
    search (
      string_filled,
      are_bytes c.args.string.now (λ i. omega (arith, c.type_inv.string i)),
      are_bytes c.args.out.now (λ i. omega (arith, c.slice_known-1.given i)),
    )
