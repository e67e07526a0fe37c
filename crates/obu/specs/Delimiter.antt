-- The temporal delimiter (5.6): a header of type 2 and, if flagged, a size of 0.
use Rattle.std.specs.Prelude.{◌≡◌, List, [], ◌∷◌, Bool, true, false, ℕ}
use Rattle.bits.specs.Walk.{Walk, none, unsigned, ◌⊕◌}
use Rattle.obu.specs.declared.header.ObuHeader.{ObuHeader}
use Rattle.obu.specs.Header.{obu_header}
use Rattle.obu.specs.Framing.{obu_size}

unfoldable pub temporal_delimiter : ObuHeader → Walk
temporal_delimiter h = (obu_header 2).enc h ⊕ obu_size h.has_size_field 0

-- the delimiter without extension, with its size and without
abbrev pub delimiter_bytes : Bool → List ℕ
delimiter_bytes true = 0x12 ∷ 0x00 ∷ []
delimiter_bytes false = 0x10 ∷ []

abbrev pub IsDelimiter : List ℕ → Type 0
IsDelimiter xs = (sized : Bool) × (xs ≡ delimiter_bytes sized)

-- the flag r tells whether P
pub record Tells (r : Bool) (P : Type 0) : Type 0 where
  pub set : r ≡ true → P
  pub is_set : P → r ≡ true

-- the walk that writes some bytes
unfoldable pub octets : List ℕ → Walk
octets [] = none
octets (e ∷ es) = unsigned 8 e 0 0 ⊕ octets es
