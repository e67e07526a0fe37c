-- Several bits of a number at once: how the store works, and not by bits.
use Rattle.std.specs.Prelude.{ℕ, ◌+◌, ◌*◌, ◌/◌, ◌%◌, ◌^◌}

-- w with the n bits above its d low ones made the n low bits of v
unfoldable pub blend : ℕ → ℕ → ℕ → ℕ → ℕ
blend w n d v = w / 2 ^ (n + d) * 2 ^ (n + d) + v % 2 ^ n * 2 ^ d + w % 2 ^ d
