use mathlib.Core.Path.{◌≡◌}
use mathlib.Core.List.{List, [], ◌∷◌}
use mathlib.Core.Bool.{Bool, true, false}
use Prim.Native.Nat.{ℕ}
use Rattle.bits.specs.Written.{Answer}
use Rattle.obu.specs.Writer.{Writes}
use Rattle.obu.specs.Delimiter.{delimiter_bytes, octets}
use Rattle.obu.proofs.delimiter.write_plain.Goals as goal

module _ {sized : Bool} {xs ys : List ℕ} {a : Answer} where
  with_size : sized ≡ true → Writes (octets (0x12 ∷ 0x00 ∷ [])) xs a ys → Writes (octets (delimiter_bytes sized)) xs a ys
  with_size h w = rw h w

  without : sized ≡ false → Writes (octets (0x10 ∷ [])) xs a ys → Writes (octets (delimiter_bytes sized)) xs a ys
  without h w = rw h w

pub returns-then-has_size_field : goal.returns-then-has_size_field
returns-then-has_size_field c = search with_size

pub returns : goal.returns
returns c = search without
