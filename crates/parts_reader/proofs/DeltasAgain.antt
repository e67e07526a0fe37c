-- A delta that was read is written again.
use mathlib.Core.Path.{◌≡◌, refl, sym, ap, subst, ◌∙◌}
use mathlib.Core.List.{[], ◌∷◌, ◌++◌}
use mathlib.Core.Bool.{Bool, true, false, cond}
use Prim.Native.Nat.{ℕ}
use lib.IntN.{ℤ, pos}
use Rattle.bits.specs.Bits.{Bits}
use Rattle.bits.specs.Walk.{wrote, run}
use Rattle.bits.specs.Codec.{Codec, got, flag, absent, choose, merged, ◌▷◌}
use Rattle.bits.specs.Codes.{su}
use Rattle.bits.specs.Lawful.{loose}
use Rattle.bits.proofs.Laws.{stop-got, then_inv, got-value, got-rest}
use Rattle.bits.proofs.CodeLaws.{su_law}
use Rattle.parts_reader.specs.Again.{Again, Rewrites}
use Rattle.parts_reader.proofs.Again.{Pieces, merged-again}

-- the flag and the number
abbrev pub flag_and_number : ℕ → ℕ → Codec (Bool × ℤ)
flag_and_number e i = flag ▷ λ coded. choose coded (su 7 e i) (absent (pos 0))

-- it is enough to say how the old delta is written where the flag was clear, and a number where it was set
module _ {R : Bits → Bits → Type 0} (P : Pieces R) (out : ℤ → Bool × ℤ) (old : ℤ) (e i : ℕ) where
  pub delta-again : (es : Bits) × (run ((flag_and_number e i).enc (out old)) ≡ wrote es) × R es (false ∷ [])
      → ((z : ℤ) (bs : Bits) → run ((su 7 e i).enc z) ≡ wrote bs → (es : Bits) × (run ((flag_and_number e i).enc (out z)) ≡ wrote es) × R es (true ∷ bs))
      → Rewrites R (merged out (λ p. cond p.0 p.1 old) (flag_and_number e i))
  unfolding ◌▷◌ flag choose absent su merged
  delta-again clear set = merged-again P out (λ p. cond p.0 p.1 old) (flag_and_number e i) go
    where
      table : Codec ℤ
      table = merged out (λ p. cond p.0 p.1 old) (flag_and_number e i)

      go : (bs : Bits) (a : Bool × ℤ) (rest : Bits) → (flag_and_number e i).dec bs ≡ got a rest → Again R table bs (cond a.0 a.1 old) rest
      go [] a rest h = absurd (stop-got h)
      go (false ∷ bs) a rest h =
          let p : ◌≡◌ {A = Bool × ℤ} (false, pos 0) a = got-value h in
          let v : old ≡ cond a.0 a.1 old = ap (λ (x : Bool × ℤ). cond x.0 x.1 old) p in
          subst (λ (z : ℤ). Again R table (false ∷ bs) z rest) v (record { front = false ∷ []; again = clear.0; taken = ap (λ (r : Bits). false ∷ r) (sym (got-rest h)); writes = clear.1; alike = clear.2; all = refl })
      go (true ∷ bs) a rest h =
          let u = then_inv ((su 7 e i).dec bs) (λ b end. got (true, b) end) a rest h in
          let v : u.0 ≡ cond a.0 a.1 old = ap (λ (x : Bool × ℤ). cond x.0 x.1 old) (got-value u.3) in
          let s = (su_law {g = loose} 7 e i).sound bs u.0 u.1 u.2 in
          let w = set u.0 s.0 s.1 in
          subst (λ (z : ℤ). Again R table (true ∷ bs) z rest) v (record { front = true ∷ s.0; again = w.0; taken = ap (λ (r : Bits). true ∷ r) (ap (λ (r : Bits). s.0 ++ r) (sym (got-rest u.3)) ∙ s.2); writes = w.1; alike = w.2; all = refl })
