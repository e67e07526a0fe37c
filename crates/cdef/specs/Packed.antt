-- How the writer stores a strength: its six bits as one number, or 64 where it is refused.
use Rattle.std.specs.Prelude.{cond, ℕ, ◌+◌, ◌*◌, eqb, ltb}

unfoldable pub packed : ℕ → ℕ → ℕ
packed pri sec = cond (ltb pri 16) (cond (ltb sec 3) (pri * 4 + sec) (cond (eqb sec 4) (pri * 4 + 3) 64)) 64
