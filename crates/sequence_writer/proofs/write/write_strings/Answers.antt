-- The second string is copied behind the first.
use native.Mathlib.Omega.{arith}
use Rattle.obu.proofs.Strings.{are_bytes}
use Rattle.sequence_writer.proofs.Arrays.{first_room, second_room, strings_ended, strings_filled}
use Rattle.sequence_writer.proofs.write.write_strings.Goals as goal

pub returns-in_err-count : goal.returns-in_err-count
returns-in_err-count c = search (strings_ended, are_bytes c.args.first.now (λ i. omega (arith, c.type_inv.first i)), are_bytes c.args.second.now (λ i. omega (arith, c.type_inv.second i)))

pub copy-requires : goal.copy-requires
copy-requires c = search first_room

pub copy-requires-2 : goal.copy-requires-2
copy-requires-2 c = search second_room

pub returns : goal.returns
returns c =
    strings_filled c.args.first.now c.args.second.now c.args.out.now c.requires c.verdict.ensures _ c.branch-count.ensures
    (are_bytes c.args.first.now (λ i. omega (arith, c.type_inv.first i)))
    (are_bytes c.args.second.now (λ i. omega (arith, c.type_inv.second i)))
    (are_bytes c.args.out.now (λ i. omega (arith, c.slice_known-1.given i)))
    c.in_ok-count.is c.copy.new.out c.copy-2.new.out c.copy.ensures c.copy-2.ensures
