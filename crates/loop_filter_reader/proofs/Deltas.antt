-- How the deltas are read or kept, and what is stored where they are not coded.
use mathlib.Core.Path.{◌≡◌, refl, sym, ap, ◌∙◌}
use mathlib.Core.List.{List}
use mathlib.Core.Bool.{Bool, false}
use Prim.Native.Nat.{ℕ, zero, suc, ◌+◌, ◌^◌, ◌<◌, ◌≤◌}
use native.Mathlib.Omega.{arith}
use lib.Dec.{lit≤}
use lib.IntN.{ℤ, pos}
use lib.ListN.{length, set}
use lib.Seq.{paste, paste-zero, paste-suc}
use lib.Signed.{mag}
use mir.Syntax.{w32}
use mir.Val.{to_z, of_z}
use Rattle.std.specs.Prelude.{Result, Ok, Err, IsErrAnd}
use Rattle.bits.specs.Codec.{Codec, absent, inferred, choose, merged, via, array, ◌▷◌, Nil, nil}
use Rattle.bits.specs.Codes.{su}
use Rattle.bits.specs.Elements.{loop_filter_ref_deltas}
use Rattle.bits.specs.declared.answer.Refusal.{Refusal}
use Rattle.reader.specs.declared.BitReader.{BitReader}
use Rattle.reader.specs.Reading.{Said}
use Rattle.reader.proofs.Reading.{fixed, by_absent}
use Rattle.fill.specs.Fills.{Layout, same, at, of, nowhere, each, ◌▸◌, Fills}
use Rattle.fill.proofs.Filling.{Laid, begin, put_on, put_last, put_no, settled, final}
use Rattle.fill.proofs.Signs.{signed_fillings}
use Rattle.fill.proofs.Looping.{Rest, rest_all, rest_on, rest_halt, rest_end}
use Rattle.loop_filter.specs.LoopFilter as table
use Rattle.loop_filter.specs.LoopFilter.{Deltas, chroma_levels, ref_deltas, default_deltas, default_refs, default_modes, no_levels, no_rest, filter_off}
use Rattle.numbers.specs.Numbers.{joined, signed_at}
use Rattle.numbers.proofs.Filling.{get_d_each}
use Rattle.parts.specs.Codes.{inferred_signed}
use Rattle.parts.proofs.Signs.{word}
use Rattle.parts_reader.specs.Reading.{delta}
use Rattle.loop_filter_reader.specs.Layout.{old_deltas, ref_place, refs_place, modes_place, deltas_place, levels_place, rest_place, update_place, off}

-- a delta is read whatever its element; the old one comes as a machine word
module _ (old : ℤ) (e k : ℕ) (h : mag old < 2 ^ 31) {p q : BitReader} where
  pub delta_of : {g : Result ℤ Refusal} → Said (delta (to_z w32 (of_z w32 old))).dec p q g → Said (table.delta old e k).dec p q g
  unfolding delta table.delta merged ◌▷◌ choose su
  delta_of s = rw (word w32 old h) at s

  module _ (o : ℕ) {v : ℤ} {m z : List ℤ} (s : Said (delta (to_z w32 (of_z w32 old))).dec p q (Ok v)) (f : mag v < 2 ^ 31) where
    pub put_delta : {B : Type 0} (j : Layout (List ℤ) B) (t : ℤ → Codec B) {n : BitReader} {g : Result Nil Refusal}
        → Laid j (t v) q n g (set m o (to_z w32 (of_z w32 v))) z → Laid (at (pos 0) o same ▸ j) (table.delta old e k ▷ t) p n g m z
    put_delta j t r = put_on (pos 0) o same j (table.delta old e k) t (delta_of s) (rw (word w32 v f) at r)

    pub delta_last : z ≡ set m o (to_z w32 (of_z w32 v)) → Laid (at (pos 0) o same) (table.delta old e k) p q (Ok nil) m z
    delta_last r = put_last (pos 0) o same (table.delta old e k) (delta_of s) (r ∙ ap (set m o) (word w32 v f))

-- the loop over the references
abbrev pub Refs : List ℤ → BitReader → List ℤ → BitReader → List ℤ → ℕ → Type 0
Refs old r m₀ p m i = Rest (pos 0) ref_place (λ i. table.delta (signed_at (old_deltas old).0 i) loop_filter_ref_deltas i) 8 8 r m₀ p m i

pub refs_start : (old : List ℤ) {p : BitReader} {m : List ℤ} → Refs old p m p m 0
refs_start old = rest_all (lit≤ tt)

module _ (old : List ℤ) (i : ℕ) (l : i < 8) (h : mag (signed_at old i) < 2 ^ 31) {r p q : BitReader} {m₀ m : List ℤ} (c : Refs old r m₀ p m i) where
  item : {g : Result Nil Refusal} {n : List ℤ} → Fills (ref_place i) (table.delta (signed_at old i) loop_filter_ref_deltas i).dec p q g m n → Fills (ref_place i) (table.delta (signed_at (old_deltas old).0 i) loop_filter_ref_deltas i).dec p q g m n
  item f = rw (get_d_each (λ (i : ℕ). signed_at old i) 8 i (pos 0) l) f

  pub refs_on : {v : ℤ} → Said (delta (to_z w32 (of_z w32 (signed_at old i)))).dec p q (Ok v) → mag v < 2 ^ 31 → Refs old r m₀ q (set m (10 + i) (to_z w32 (of_z w32 v))) (i + 1)
  refs_on s f = rest_on c l (item (begin _ (delta_last (signed_at old i) loop_filter_ref_deltas i h (10 + i) s f refl)))

  pub refs_halt : {y : Refusal} {g : Result Nil Refusal} {z : List ℤ} → Said (delta (to_z w32 (of_z w32 (signed_at old i)))).dec p q (Err y) → IsErrAnd g (λ z. z ≡ y) → Fills refs_place (ref_deltas (old_deltas old).0).dec r q g m₀ z
  unfolding ref_deltas refs_place
  refs_halt s e =
      let one = table.delta (signed_at old i) loop_filter_ref_deltas i in
      begin _ (rest_halt c l (item {n = m} (begin one (put_no one (delta_of (signed_at old i) loop_filter_ref_deltas i h s) refl))) e)

pub refs_end : (old : List ℤ) {i : ℕ} {r p : BitReader} {m₀ m : List ℤ} → Refs old r m₀ p m i → 8 ≤ i → Fills refs_place (ref_deltas (old_deltas old).0).dec r p (Ok nil) m₀ m
unfolding ref_deltas refs_place
refs_end old r h = begin _ (rest_end r h)

-- the deltas that are kept: the first i of them stored, one by one and at once
abbrev stored : ℕ → List ℤ → List ℤ → List ℤ
stored zero old m = m
stored (suc i) old m = set (stored i old m) (10 + i) (signed_at old i)

stored-paste : (old m : List ℤ) → length old ≡ 10 → length m ≡ 20 → (i : ℕ) → i ≤ 10 → stored i old m ≡ paste m 10 old i
stored-paste old m a b zero h = paste-zero m 10 old
stored-paste old m a b (suc i) h = rw (stored-paste old m a b i (omega arith)) (paste-suc m 10 old i (pos 0) (omega (arith, b)) (omega (arith, a)))

pub kept : (old m : List ℤ) → length old ≡ 10 → length m ≡ 20 → paste m 10 old 10 ≡ deltas_place.put (old_deltas old) m
unfolding deltas_place refs_place modes_place joined ◌▸◌ each nowhere of at
kept old m a b = sym (stored-paste old m a b 10 (omega arith))

-- deltas that are kept, and the filter that is off: nothing is coded
pub kept_laid : (old : Deltas) {p : BitReader} {m z : List ℤ} → z ≡ deltas_place.put old m → Laid deltas_place (absent old) p p (Ok nil) m z
kept_laid old e = settled (absent old) old (by_absent old) e

pub rest_kept : (old : Deltas) {p : BitReader} {m z : List ℤ} → z ≡ deltas_place.put old (set m 9 (pos 0)) → Laid update_place (absent (false, old)) p p (Ok nil) m z
unfolding update_place ◌▸◌ at
rest_kept old e = settled (absent (false, old)) (false, old) (by_absent (false, old)) e

pub switched_off : {p : BitReader} {m z : List ℤ} → z ≡ (levels_place ▸ rest_place).put off m → Laid (levels_place ▸ rest_place) filter_off p p (Ok nil) m z
unfolding filter_off no_levels no_rest default_refs default_modes array via ◌▷◌ choose absent inferred inferred_signed
switched_off e = settled filter_off off (fixed (λ bs. refl)) e

-- levels 2 and 3, whether they are coded
pub final_chroma : (t b : Bool) {M : Type 0} {l : Layout M (ℕ × ℕ)} {p q : BitReader} {g : Result Nil Refusal} {m z : M} → t ≡ b → Fills l (chroma_levels t).dec p q g m z → Laid l (chroma_levels b) p q g m z
final_chroma t b e f = rw (← e) (final (chroma_levels t) f refl)

pub ruleset filter_fillings = (signed_fillings, refs_start, refs_end, kept_laid, rest_kept, switched_off, final_chroma)
