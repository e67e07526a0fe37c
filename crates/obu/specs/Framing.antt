-- What stands around a payload: obu_size before it (5.3.1), and the trailing bits behind it (5.3.4).
use Rattle.std.specs.Prelude.{[], ◌∷◌, Bool, true, false, cond, ◌&&◌, not, ℕ, ◌+◌, ◌-◌, ◌*◌, ◌/◌, ◌%◌, length, eqb}
use Rattle.bits.specs.Bits.{Bits}
use Rattle.bits.specs.Walk.{Walk, none, unsigned, mark, refuse, either, ◌⊕◌, End, done, refused, run}
use Rattle.bits.specs.Codec.{Got, got, stop, and_then, Nil, nil}
use Rattle.bits.specs.Codes.{leb128}
use Rattle.bits.specs.declared.answer.Refusal.TheVariants.{Size, Trailing}

-- obu_size, if flagged
unfoldable pub obu_size : Bool → ℕ → Walk
obu_size sized size = either sized ((leb128 8).enc size) none

-- reading it: cut off is refusal 4, an eighth byte that still continues 6 (both by leb128), a value that is not the number of the bytes that follow 6
unfoldable pub read_size : Bool → Bits → Got Nil
read_size true bs = and_then ((leb128 8).dec bs) (λ size rest. cond (eqb (size * 8) (length rest)) (got nil rest) (stop Size))
read_size false bs = got nil bs

-- the bytes that n bits and a one bit behind them take
abbrev pub bytes_for : ℕ → ℕ
bytes_for n = n / 8 + 1

-- the zeros that fill the last of them
abbrev pub padding : ℕ → ℕ
padding n = 7 - n % 8

-- the trailing bits of a payload of n bits
unfoldable pub trailing_bits : ℕ → Walk
trailing_bits n = mark true ⊕ unsigned (padding n) 0 0 0

-- reading them: a one bit, and nothing but zeros up to the end; else refusal 7
unfoldable pub all_zero : Bits → Bool
all_zero [] = true
all_zero (b ∷ bs) = not b && all_zero bs

unfoldable pub is_trailing : Bits → Bool
is_trailing [] = false
is_trailing (b ∷ bs) = b && all_zero bs

unfoldable pub read_trailing : Bits → Got Nil
read_trailing bs = cond (is_trailing bs) (got nil []) (stop Trailing)

-- how many bits a payload's walk writes
abbrev pub bit_count : Walk → ℕ
bit_count payload = length (run payload).bits

-- a payload that is refused is refused before its size is written
abbrev pub admitted : End → Walk
admitted done = none
admitted (refused r) = refuse r

-- all that follows the header
unfoldable pub framed : Bool → Walk → Walk
framed sized payload = admitted (run payload).end ⊕ obu_size sized (bytes_for (bit_count payload)) ⊕ payload ⊕ trailing_bits (bit_count payload)
