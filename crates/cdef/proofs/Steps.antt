-- How the functions of 5.9.19 meet their tables.
use mathlib.Core.Path.{◌≡◌, refl, sym, ap, ◌∙◌}
use mathlib.Core.List.{List}
use mathlib.Core.Logic.{⊎_elim}
use mathlib.Core.Bool.{Bool, true, false, cond, not}
use Prim.Native.Nat.{ℕ, zero, suc, ◌+◌, ◌-◌, ◌*◌, ◌^◌, ◌≤◌, ◌<◌, min}
use native.Mathlib.Omega.{arith}
use lib.ListN.{get_or}
use lib.Dec.{eqb, ltb, lit<}
use borrow.Author.Tests.{lt-ltb, le-ltb, eq-eqb, ne_eqb, ltb-true, eqb-true}
use Rattle.bits.specs.Bits.{to_bits}
use Rattle.bits.specs.Walk.{Walk, none, field, unsigned, either, ◌⊕◌, Out, wrote, join, run}
use Rattle.bits.specs.Codec.{Codec, f, absent, choose, checked, via, array, uncons, ◌▷◌}
use Rattle.bits.specs.Elements.{cdef_y_pri_strength, cdef_y_sec_strength, cdef_uv_pri_strength, cdef_uv_sec_strength, cdef_damping}
use Rattle.bits.specs.declared.answer.Refusal.{Refusal}
use Rattle.bits.specs.declared.answer.Refusal.TheVariants.{Inconsistent, Unfit}
use Rattle.writer.specs.Walked.{Walked}
use Rattle.writer.specs.declared.BitWriter.{BitWriter}
use Rattle.writer.proofs.Walking.{Answer as Step}
use Rattle.std.specs.Prelude.{Err}
use Rattle.writer.proofs.Walking.{as_run, after_none, field-refused, halt_here, held_then, broken}
use Rattle.bits.proofs.Leaves.{field-run}
use Rattle.bits.proofs.Storing.{below_or}
use Rattle.writer.proofs.Loops.{array_first}
use Rattle.cdef.specs.Cdef as table
use Rattle.cdef.specs.Packed.{packed}
use Rattle.cdef.specs.Cdef.{damping, swapped, secondary, strength, strengths, Strengths, each_strength, no_strength, no_place, no_strengths, strengths_out}
use Rattle.cdef.specs.declared.record.CdefParams.{CdefParams}
use Rattle.parts.proofs.Pairs.{zip-at}
use Rattle.parts.proofs.Packing.{both_run, by_field}

module _ (v : ℕ) {c : BitWriter} where
  pub damping_low : v < 3 → Walked (damping.enc v) c c (Err (Unfit cdef_damping 0 0))
  unfolding damping
  damping_low h = rw (lt-ltb v 3 h) (field-refused 2 4 _ false refl refl)

  pub damping_high : 3 ≤ v → 6 < v → Walked (damping.enc v) c c (Err (Unfit cdef_damping 0 0))
  unfolding damping
  damping_high h k = rw (le-ltb v 3 h) (field-refused 2 (v - 3) _ false (sym (le-ltb (v - 3) 4 (omega arith))) refl)

  pub damping_fits : {w : Walk} {d : BitWriter} {s : Step} → 3 ≤ v → v ≤ 6 → Walked (unsigned 2 (v - 3) cdef_damping 0 ⊕ w) c d s → Walked (damping.enc v ⊕ w) c d s
  unfolding damping run
  damping_fits {w} h k g =
      let l : v - 3 < 4 = omega arith in
      rw (le-ltb v 3 h) (as_run (ap (λ (o : Out). join o (run w)) (field-run 2 (v - 3) _ l ∙ sym (field-run 2 (v - 3) (Unfit cdef_damping 0 0) l))) g)

module _ (e i v : ℕ) {c : BitWriter} where
  pub secondary_three : v ≡ 3 → Walked ((secondary e i).enc v) c c (Err (Inconsistent e i))
  unfolding secondary checked
  secondary_three h = halt_here (broken (ap not (eq-eqb v 3 h)))

  pub secondary_four : {d : BitWriter} {s : Step} → v ≡ 4 → Walked (field 2 3 (Unfit e i 0)) c d s → Walked ((secondary e i).enc v) c d s
  unfolding secondary checked
  secondary_four h g = rw h (held_then refl g)

  pub secondary-other : {d : BitWriter} {s : Step} → (v ≡ 3 → ⊥) → (v ≡ 4 → ⊥) → Walked (field 2 v (Unfit e i 0)) c d s → Walked ((secondary e i).enc v) c d s
  unfolding secondary checked
  secondary-other h k g = held_then (ap not (ne_eqb v 3 h)) (rw (ne_eqb v 4 k, ne_eqb v 3 h) g)

-- the strengths of one place
luma : CdefParams → ℕ → ℕ × ℕ
luma p i = (get_or p.cdef_y_pri_strength i 0, get_or p.cdef_y_sec_strength i 0)

chroma : CdefParams → ℕ → ℕ × ℕ
chroma p i = (get_or p.cdef_uv_pri_strength i 0, get_or p.cdef_uv_sec_strength i 0)

at_place : (p : CdefParams) (i : ℕ) → get_or (strengths_out p) i table.none ≡ (luma p i, chroma p i)
unfolding luma chroma
at_place p i = zip-at (0, 0) (0, 0) _ _ i ∙ rw (zip-at 0 0 p.cdef_y_pri_strength p.cdef_y_sec_strength i, zip-at 0 0 p.cdef_uv_pri_strength p.cdef_uv_sec_strength i)

-- the bits of a strength
secondary-run : (e i v w : ℕ) → (v ≡ 3 → ⊥) → swapped v ≡ w → w < 4 → run ((secondary e i).enc v) ≡ wrote (to_bits 2 w)
unfolding secondary checked run join
secondary-run e i v w h q l = rw (ne_eqb v 3 h) (rw (ne_eqb v 3 h) at (ap (λ (x : ℕ). run (field 2 x (Unfit e i 0))) q ∙ field-run 2 w (Unfit e i 0) l))

packed-run : (pe se i p s r : ℕ) → r ≡ packed p s → r < 64 → run ((strength pe se i).enc (p, s)) ≡ wrote (to_bits 6 r)
unfolding packed strength ◌▷◌ f run
packed-run pe se i p s r e h = go (ltb p 16) (ltb s 3) (eqb s 4) refl refl refl e
  where
    parts : (v : ℕ) → p < 16 → (s ≡ 3 → ⊥) → swapped s ≡ v → v < 4 → r ≡ p * 4 + v → run ((strength pe se i).enc (p, s)) ≡ wrote (to_bits 6 r)
    parts v a b q l k = rw k (both_run 4 2 p v (field-run 4 p _ a) (secondary-run se i s v b q l) l)

    go : (t u v : Bool) → ltb p 16 ≡ t → ltb s 3 ≡ u → eqb s 4 ≡ v → r ≡ cond t (cond u (p * 4 + s) (cond v (p * 4 + 3) 64)) 64 → run ((strength pe se i).enc (p, s)) ≡ wrote (to_bits 6 r)
    go true true v a b d k =
        let l = ltb-true s 3 b in
        parts s (ltb-true p 16 a) (λ n. omega arith) (rw (ne_eqb s 4 (λ n. omega arith), ne_eqb s 3 (λ n. omega arith))) (omega arith) k
    go true false true a b d k = let n = eqb-true s 4 d in parts 3 (ltb-true p 16 a) (λ m. omega arith) (rw n) (omega arith) k
    go true false false a b d k = absurd (omega arith)
    go false u v a b d k = absurd (omega arith)

alone : {v w : Walk} {c d : BitWriter} {s : Step} → Walked v c d s → Walked (v ⊕ either true none w) c d s
unfolding run
alone {v} {w} g = as_run refl (after_none g)

module _ (p : CdefParams) {c d : BitWriter} {s : Step} where
  pub strengths_by : (planes i : ℕ)
      → Walked ((strength cdef_y_pri_strength cdef_y_sec_strength i).enc (get_or p.cdef_y_pri_strength i 0, get_or p.cdef_y_sec_strength i 0)
      ⊕ either (eqb planes 1) none ((strength cdef_uv_pri_strength cdef_uv_sec_strength i).enc (get_or p.cdef_uv_pri_strength i 0, get_or p.cdef_uv_sec_strength i 0))) c d s
      → Walked ((strengths planes i).enc (get_or (strengths_out p) i table.none)) c d s
  unfolding strengths ◌▷◌ choose absent luma chroma
  strengths_by planes i g = rw (at_place p i) g

  -- all of a place in one field
  pub strengths-packed : (planes i y uv : ℕ) {r : Refusal} → (planes ≡ 1 → ⊥) → y ≡ packed (get_or p.cdef_y_pri_strength i 0) (get_or p.cdef_y_sec_strength i 0) → uv ≡ packed (get_or p.cdef_uv_pri_strength i 0) (get_or p.cdef_uv_sec_strength i 0)
      → y < 64 → uv < 64 → Walked (field 12 (y * 64 + uv) r) c d s → Walked ((strengths planes i).enc (get_or (strengths_out p) i table.none)) c d s
  unfolding run
  strengths-packed planes i y uv h a b k l g =
      let x = packed-run cdef_y_pri_strength cdef_y_sec_strength i (get_or p.cdef_y_pri_strength i 0) (get_or p.cdef_y_sec_strength i 0) y a k in
      let z = packed-run cdef_uv_pri_strength cdef_uv_sec_strength i (get_or p.cdef_uv_pri_strength i 0) (get_or p.cdef_uv_sec_strength i 0) uv b l in
      strengths_by planes i (by_field 12 (y * 64 + uv) (both_run 6 6 y uv x (rw (ne_eqb planes 1 h) z) l) (omega arith) g)

  pub luma_packed : (planes i y : ℕ) {r : Refusal} → planes ≡ 1 → y ≡ packed (get_or p.cdef_y_pri_strength i 0) (get_or p.cdef_y_sec_strength i 0) → y < 64
      → Walked (field 6 y r) c d s → Walked ((strengths planes i).enc (get_or (strengths_out p) i table.none)) c d s
  luma_packed planes i y h a k g =
      let x = packed-run cdef_y_pri_strength cdef_y_sec_strength i (get_or p.cdef_y_pri_strength i 0) (get_or p.cdef_y_sec_strength i 0) y a k in
      strengths_by planes i (rw (eq-eqb planes 1 h) (alone (by_field 6 y x k g)))

  pub no-strengths-by :
      Walked ((no_strength cdef_y_pri_strength cdef_y_sec_strength).enc (get_or p.cdef_y_pri_strength 0 0, get_or p.cdef_y_sec_strength 0 0)
      ⊕ (no_strength cdef_uv_pri_strength cdef_uv_sec_strength).enc (get_or p.cdef_uv_pri_strength 0 0, get_or p.cdef_uv_sec_strength 0 0)) c d s
      → Walked (no_strengths.enc (strengths_out p)) c d s
  unfolding no_strengths no_place ◌▷◌ luma chroma
  no-strengths-by g = array_first table.none (λ _. no_place) 8 (strengths_out p) (lit< tt) (rw (at_place p 0) g)

-- an array codes no more places than it has
below_both : (i n k : ℕ) → i < k → ltb i (min n k) ≡ ltb i n
below_both i n k h = ⊎_elim
    (λ (l : i < n). lt-ltb i (min n k) (omega arith) ∙ sym (lt-ltb i n l))
    (λ (l : n ≤ i). le-ltb i (min n k) (omega arith) ∙ sym (le-ltb i n l))
    (below_or i n)

array-most : {A : Type 0} (z : A) (item : ℕ → Codec A) (m i n : ℕ) (vs : List A) → run ((array z item m i (min n (i + m))).enc vs) ≡ run ((array z item m i n).enc vs)
unfolding array via ◌▷◌ choose absent run
array-most z item zero i n vs = refl
array-most z item (suc m) i n vs =
    let k : i + suc m ≡ suc i + m = omega arith in
    rw (below_both i n (i + suc m) (omega arith), k, array-most z item m (suc i) n (uncons z vs).1)

pub places_by : (planes bits n : ℕ) (vs : List Strengths) {c d : BitWriter} {s : Step} → n ≡ min (2 ^ bits) 8
    → Walked ((each_strength planes n).enc vs) c d s → Walked ((each_strength planes (2 ^ bits)).enc vs) c d s
unfolding each_strength
places_by planes bits n vs h g = as_run (array-most table.none (strengths planes) 8 0 (2 ^ bits) vs) (rw h at g)
