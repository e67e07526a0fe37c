-- The checks that a walk makes, in their order: each with whether it holds, and its refusal. A check is known by its place among them, where its element
-- and index do not tell it from another.
use Rattle.std.specs.Prelude.{Bool, true, false, cond, List, [], ◌∷◌, ◌++◌, ◌^◌, ltb}
use Rattle.bits.specs.Walk.{Walk, none, field, mark, demand, refuse, either, ◌⊕◌, End, done, refused}
use Rattle.bits.specs.declared.answer.Refusal.{Refusal}

abbrev pub Check : Type 0
Check = Bool × Refusal

unfoldable pub checks : Walk → List Check
checks none = []
checks (field n v r) = (ltb v (2 ^ n), r) ∷ []
checks (mark b) = []
checks (demand t r) = (t, r) ∷ []
checks (refuse r) = (false, r) ∷ []
checks (either t a b) = cond t (checks a) (checks b)
checks (a ⊕ b) = checks a ++ checks b

-- the first one that does not hold ends the walk
unfoldable pub first_broken : List Check → End
first_broken [] = done
first_broken ((true, r) ∷ cs) = first_broken cs
first_broken ((false, r) ∷ cs) = refused r
