-- The least width that holds a number: the bit length of one without a sign, and the width in two's complement of one with a sign.
use Rattle.std.specs.Prelude.{cond, ℕ, zero, suc, ◌+◌, ◌*◌, ◌^◌, ltb, ℤ, pos, negsuc}

-- the least width up to k that holds n, and k where none does
unfoldable pub width_up_to : ℕ → ℕ → ℕ
width_up_to zero n = zero
width_up_to (suc k) n = cond (ltb n (2 ^ k)) (width_up_to k n) (suc k)

-- (n bits always hold n.)
unfoldable pub bit_length : ℕ → ℕ
bit_length n = width_up_to n n

-- n bits of two's complement hold m if 2m < 2^n, and -(m + 1) if 2m + 1 < 2^n. (`pos m` is m, and `negsuc m` is -(m + 1).)
unfoldable pub signed_length : ℤ → ℕ
signed_length (pos m) = bit_length (m * 2)
signed_length (negsuc m) = bit_length (m * 2 + 1)
