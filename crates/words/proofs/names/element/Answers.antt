use Rattle.std.proofs.Common.{[], ◌≡◌, refl, eqb, true, false, ◌++◌, length}
use Rattle.words.specs.Names.{names, element}
use Rattle.words.specs.Text.{codes, decimal, find}
use Rattle.words.proofs.Found.{found, all_filled}
use Rattle.words.proofs.Puts.{puts_then}
use Rattle.words.proofs.names.element.Goals as goal

pub returns-then-is_empty : goal.returns-then-is_empty
unfolding element names all_filled
returns-then-is_empty c =
    let e = found names c.args.element (codes "element " ++ decimal c.args.element) refl in
    let t : eqb (length (find c.args.element names [])) 0 ≡ true = cc in
    rw (e, t) (puts_then c.text.ensures c.decimal.ensures)

pub returns-else-is_empty : goal.returns-else-is_empty
unfolding element names all_filled
returns-else-is_empty c =
    let e = found names c.args.element (codes "element " ++ decimal c.args.element) refl in
    let t : eqb (length (find c.args.element names [])) 0 ≡ false = cc in
    rw (e, t, ← c.name-name.ensures) c.text-else-is_empty.ensures
