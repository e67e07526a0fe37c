-- A number with a sign, as text.
use Rattle.std.specs.Prelude.{cond, List, [], ◌∷◌, ◌++◌, ℕ}
use Rattle.words.specs.Text.{decimal}
use Rattle.lines.specs.declared.signed.Number.{Number}

unfoldable pub signed : Number → List ℕ
signed n = cond n.is_negative ((45 ∷ []) ++ decimal n.magnitude) (decimal n.magnitude)
