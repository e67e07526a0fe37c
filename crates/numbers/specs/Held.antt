-- What a field of 16 bits holds of a number: the nearest. Only contracts of functions inside cite this, and no public call's.
use Rattle.std.specs.Prelude.{ℤ, pos, negsuc}
use Rattle.parts.specs.Codes.{clip}

abbrev pub int16 : ℤ → ℤ
int16 z = clip (negsuc 32767) (pos 32767) z
