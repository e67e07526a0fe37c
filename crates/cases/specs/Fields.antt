-- What a field of a case line holds, by its kind.
use Rattle.std.specs.Prelude.{cond, ◌&&◌, ℕ, ◌-◌, ◌^◌, ℤ, pos, negsuc, int_le, Option, Some, None}
use Rattle.std.specs.Int.{w32, cast_unsigned}
use Rattle.std.specs.Ordering.{int_eq}
use Rattle.cases.specs.declared.fields.Kind.{Kind}
use Rattle.cases.specs.declared.fields.Kind.TheVariants.{F, N, B, D, H}

-- a number from low to high as 32 bits: two's complement for a number below 0
abbrev pub within : ℤ → ℤ → ℤ → Option ℕ
within low high n = cond (int_le low n && int_le n high) (Some (cast_unsigned w32 n)) None

-- a number as the 32 bits of a field: 1 for a flag that is set
abbrev pub coded : Kind → ℤ → Option ℕ
coded F n = Some (cond (int_eq n (pos 0)) 0 1)
coded N n = within (pos 0) (pos (2 ^ 32 - 1)) n
coded B n = within (pos 0) (pos 255) n
coded D n = within (negsuc 127) (pos 127) n
coded H n = within (negsuc 32767) (pos 32767) n
