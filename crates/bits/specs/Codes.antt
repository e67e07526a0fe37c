-- The codes of numbers beside f(n): uvlc (4.10.3), su(n) (4.10.6) and leb128 (4.10.5), as document 01 puts them.
use Rattle.std.specs.Prelude.{[], ◌∷◌, true, false, cond, ℕ, zero, suc, ◌+◌, ◌-◌, ◌*◌, ◌^◌, ◌/◌, ◌%◌, ltb, leb, ℤ, pos, negsuc}
use Rattle.bits.specs.Bits.{Bits}
use Rattle.bits.specs.Widths.{width_up_to, bit_length, signed_length}
use Rattle.bits.specs.Walk.{unsigned, demand, refuse, ◌⊕◌}
use Rattle.bits.specs.Codec.{Codec, Got, got, stop, and_then, single, field_as, f, absent, choose, ◌▷◌, merged}
use Rattle.bits.specs.declared.answer.Refusal.TheVariants.{Inconsistent, Unfit, Ends, Size}

-- the zeros before the next one, at most m: reading one more is refusal 1
unfoldable pub unary : ℕ → ℕ → ℕ → Bits → Got ℕ
unary m e i [] = stop Ends
unary m e i (true ∷ bs) = got 0 (true ∷ bs)
unary zero e i (false ∷ bs) = stop (Inconsistent e i)
unary (suc m) e i (false ∷ bs) = and_then (unary m e i bs) (λ z rest. got (suc z) rest)

-- uvlc: with L the bit length of v + 1, L - 1 zeros and then v + 1 in L bits. (32 bits hold every v + 1 that is written; L is looked for
-- no further, so that the walk has a bound for any v.)
-- Difference (docs/DIFFERENCES.md, rows 6 and 8): the standard codes 2^32 - 1 as 32 zeros and a one, and reads 32 zeros as 2^32 - 1. Document 01
-- refuses both; the crate writes 32 zeros and no one.
unfoldable pub uvlc : ℕ → ℕ → Codec ℕ
uvlc e i = single
    (λ v. let L = width_up_to 32 (v + 1) in demand (ltb v (2 ^ 32 - 1)) (Unfit e i (bit_length (v + 1))) ⊕ unsigned (L - 1) 0 0 0 ⊕ unsigned L (v + 1) e i)
    (λ bs. and_then (unary 31 e i bs) (λ z rest. and_then ((f (z + 1) e i).dec rest) (λ w end. got (w - 1) end)))

-- su(n): two's complement in n bits; a number out of range goes to 2^n, which no n bits hold. (`pos m` is m, and `negsuc m` is -(m + 1).)
abbrev pub su_out : ℕ → ℤ → ℕ
su_out n (pos m) = cond (ltb (m * 2) (2 ^ n)) m (2 ^ n)
su_out n (negsuc m) = cond (leb (suc m * 2) (2 ^ n)) (2 ^ n - suc m) (2 ^ n)

abbrev pub su_in : ℕ → ℕ → ℤ
su_in n v = cond (ltb (v * 2) (2 ^ n)) (pos v) (negsuc (2 ^ n - suc v))

unfoldable pub su : ℕ → ℕ → ℕ → Codec ℤ
su n e i = field_as n (su_out n) (su_in n) (λ z. Unfit e i (signed_length z))

-- leb128: seven bits a byte, the low ones first; a byte of 128 and more goes on
abbrev pub leb_out : ℕ → ℕ × ℕ
leb_out n = cond (ltb n 128) (n, 0) (128 + n % 128, n / 128)

abbrev pub leb_in : ℕ × ℕ → ℕ
leb_in p = cond (ltb p.0 128) p.0 (p.0 - 128 + p.1 * 128)

unfoldable pub leb_step : Codec ℕ → Codec (ℕ × ℕ)
leb_step more = f 8 0 0 ▷ λ b. choose (ltb b 128) (absent 0) more

-- no byte is left to go on with
unfoldable pub too_long : Codec ℕ
too_long = record { enc = λ _. refuse Size; dec = λ _. stop Size; coded = λ n. n; spells = λ _ _. ⊥ }

-- leb128 in at most k bytes
unfoldable pub leb128 : ℕ → Codec ℕ
leb128 zero = too_long
leb128 (suc k) = merged leb_out leb_in (leb_step (leb128 k))
