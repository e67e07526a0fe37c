-- How a part is walked over an array of its own, and what goes back into the slice.
use Rattle.std.specs.Prelude.{Result, ◌≡◌, List, ◌++◌, cond, ℕ, ◌+◌, ◌-◌, ◌*◌, ◌/◌, ltb, length, take, drop, Ok, Err}
use Rattle.bits.specs.Written.{Written, keep, whole_bytes, Answer}
use Rattle.bits.specs.declared.answer.Refusal.{Refusal}
use Rattle.bits.specs.declared.answer.Refusal.TheVariants.{Short, Long}

-- A part is walked over an array, which is lent the bytes of the slice from that of the place on, as many as both have, and keeps its own behind them.
unfoldable pub lent : List ℕ → ℕ → List ℕ → List ℕ
lent xs place ns = take (length ns) (drop (place / 8) xs) ++ drop (length xs - place / 8) ns

-- After a walk to a bit of the array that left ns there: the bytes that it reached go back into the slice, from the first on.
abbrev pub put_back : ℕ → ℕ → List ℕ → List ℕ → Written
put_back at first ns xs =
    cond (ltb (length xs * 8) (first * 8 + at))
    (keep (Short (first + whole_bytes at)) xs)
    (record { answer = Ok (first * 8 + at); bytes = take first xs ++ (take (whole_bytes at) ns ++ drop (whole_bytes at) (drop first xs)) })

-- (No part's walk passes the end of its array, and no such array is long.)
abbrev pub after_near : Result Unit Refusal → ℕ → ℕ → List ℕ → List ℕ → Written
after_near (Err r) at first ns xs = keep r xs
after_near (Ok u) at first ns xs = cond (ltb 65536 (length ns)) (keep Long xs) (cond (ltb (length ns * 8) at) (keep Long xs) (put_back at first ns xs))

unfoldable pub settled : Result Unit Refusal → ℕ → ℕ → List ℕ → List ℕ → Written
settled s at place ns xs = cond (ltb 65536 (length xs)) (keep Long xs) (after_near s at (place / 8) ns xs)

pub data Settles (s : Result Unit Refusal) (at place : ℕ) (ns xs : List ℕ) (r : Answer) (ys : List ℕ) : Type 0 where
  settles : r ≡ (settled s at place ns xs).answer → ys ≡ (settled s at place ns xs).bytes → Settles s at place ns xs r ys
