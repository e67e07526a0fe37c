-- Only inner contracts cite this: the names as the code holds them, in the order of their numbers.
use Rattle.std.specs.Prelude.{List, [], ℕ, slice_index_or}

-- a word, or none
unfoldable pub word : ℕ → List (List ℕ) → List ℕ
word n words = slice_index_or words n []
