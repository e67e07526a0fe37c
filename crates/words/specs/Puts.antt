-- Bytes that are put behind a text under way.
use Rattle.std.specs.Prelude.{◌≡◌, List, ℕ, length}
use Rattle.words.specs.declared.put.Text.{Text}
use Rattle.words.specs.Text.{Put}

pub record Puts (old : Text) (s : List ℕ) (new : Text) : Type 0 where
  pub same_slice : new.out.ghost_name ≡ old.out.ghost_name
  pub same_length : length new.out.now ≡ length old.out.now
  pub put : Put old.out.now old.at s new.at new.out.now
