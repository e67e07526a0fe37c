-- How much room is enough for a writer that writes its records by the walks w: n bytes for an OBU, n bits for a part.
use Rattle.std.specs.Prelude.{◌≡◌, List, cond, ℕ, ◌+◌, ◌*◌, ◌≤◌, ltb, length, Ok, Err}
use Rattle.bits.specs.Walk.{Walk}
use Rattle.bits.specs.Written.{whole_bytes}
use Rattle.bits.specs.declared.answer.Refusal.TheVariants.{Short}
use Rattle.obu.specs.Writer.{written, Writes}
use Rattle.parts.specs.Written as part

pub record EnoughBytes {R : Type 0} (w : R → Walk) (n : ℕ) (longest : R) : Type 0 where
  -- no OBU that is written is longer,
  pub most : (r : R) (xs ys : List ℕ) (m : ℕ) → Writes (w r) xs (Ok m) ys → m ≤ n
  -- so that a slice of n bytes is never too short for one;
  pub never_short : (r : R) (xs ys : List ℕ) (m : ℕ) → n ≤ length xs → Writes (w r) xs (Err (Short m)) ys → ⊥
  -- and no fewer are enough, since one record takes them all
  pub reached : (xs : List ℕ) → length xs ≤ 65536 → (written (w longest) xs).answer ≡ cond (ltb (length xs) n) (Err (Short n)) (Ok n)

-- the same of a part, which begins at a bit of the slice
pub record EnoughBits {R : Type 0} (w : R → Walk) (n : ℕ) (longest : R) : Type 0 where
  pub most : (r : R) (place : ℕ) (xs ys : List ℕ) (m : ℕ) → part.Writes (w r) place xs (Ok m) ys → m ≤ place + n
  pub never_short : (r : R) (place : ℕ) (xs ys : List ℕ) (m : ℕ) → place + n ≤ length xs * 8 → part.Writes (w r) place xs (Err (Short m)) ys → ⊥
  pub reached : (place : ℕ) (xs : List ℕ) → length xs ≤ 65536
      → (part.written (w longest) place xs).answer ≡ cond (ltb (length xs * 8) (place + n)) (Err (Short (whole_bytes (place + n)))) (Ok (place + n))
