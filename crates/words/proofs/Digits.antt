-- A number in decimal: its last digit behind the others.
use Rattle.std.proofs.Common.{◌≡◌, refl, sym, ◌∙◌, ℕ, ◌+◌, ◌/◌, ◌%◌, ◌^◌, ◌≤◌, ◌<◌, Bool, true, false, ltb, zero, suc, [], ◌∷◌, ◌++◌, length, length-append, arith}
use Rattle.std.proofs.lemmas.Bool.Decides.{nat_tests}
use native.Mathlib.Nat.{pow-suc}
use borrow.Author.Tests.{ltb-true, ltb-false}
use Rattle.words.specs.Text.{digits, decimal}

pub small : (k n : ℕ) → n < 10 → digits (suc k) n ≡ (48 + n) ∷ []
unfolding digits
small k n h = grind (arith, nat_tests)

pub large : (k n : ℕ) → 10 ≤ n → digits (suc k) n ≡ digits k (n / 10) ++ ((48 + n % 10) ∷ [])
unfolding digits
large k n h = grind (arith, nat_tests)

-- room for one digit more changes nothing
more : (k n : ℕ) (t : Bool) → ltb n 10 ≡ t → n < 10 ^ suc k → digits (suc k) n ≡ digits (suc (suc k)) n
more zero n true e h = small 0 n (ltb-true n 10 e) ∙ sym (small 1 n (ltb-true n 10 e))
more zero n false e h = absurd (omega (arith, ltb-false n 10 e))
more (suc k) n true e h = small (suc k) n (ltb-true n 10 e) ∙ sym (small (suc (suc k)) n (ltb-true n 10 e))
more (suc k) n false e h =
    let ge : 10 ≤ n = ltb-false n 10 e in
    rw (large (suc k) n ge, large (suc (suc k)) n ge, more k (n / 10) (ltb (n / 10) 10) refl (omega (arith, pow-suc 10 (suc k))))

pub one_digit : (n : ℕ) → n < 10 → (48 + n) ∷ [] ≡ decimal n
one_digit n h = sym (small 19 n h)

pub last_digit : (n : ℕ) → 10 ≤ n → n < 2 ^ 64 → decimal (n / 10) ++ ((48 + n % 10) ∷ []) ≡ decimal n
last_digit n h k = rw (large 19 n h, more 18 (n / 10) (ltb (n / 10) 10) refl (omega arith))

-- a number of 64 bits has twenty digits at most
digits_fit : (k n : ℕ) → length (digits k n) ≤ k
unfolding digits
digits_fit zero n = omega arith
digits_fit (suc k) n = grind (arith, nat_tests, length-append {A = ℕ}, digits_fit k (n / 10))

pub decimal_fits : (n : ℕ) → length (decimal n) ≤ 20
decimal_fits n = digits_fit 20 n
