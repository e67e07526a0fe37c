-- How the damping and the strengths are read, and what is stored where they are not coded.
use mathlib.Core.Path.{◌≡◌, refl}
use mathlib.Core.List.{List}
use mathlib.Core.Bool.{Bool, true, false, cond}
use lib.Dec.{eqb, ltb, lit≤}
use borrow.Author.Tests.{ne_eqb}
use Prim.Native.Nat.{ℕ, ◌+◌, ◌/◌, ◌%◌, ◌^◌, ◌<◌, ◌≤◌, min}
use native.Mathlib.Omega.{arith}
use lib.IntN.{ℤ, pos}
use lib.ListN.{set}
use mir.Syntax.{w32}
use mir.Val.{Fits, SFits, to_z, of_z}
use mir.Facts.{to_z-of_z}
use Rattle.std.specs.Prelude.{Result, Ok, Err, IsErrAnd}
use Rattle.bits.specs.Codec.{Codec, take_bits, f, absent, inferred, choose, checked, via, array, ◌▷◌, Nil, nil}
use Rattle.bits.specs.Bits.{from_bits}
use Rattle.bits.proofs.Bounds.{bits_small}
use Rattle.bits.specs.declared.answer.Refusal.{Refusal}
use Rattle.reader.specs.declared.BitReader.{BitReader}
use Rattle.reader.specs.Reading.{Said, said, completes}
use Rattle.reader.proofs.Reading.{reads, last, f_fits, by_absent}
use Rattle.cdef.specs.Cdef.{damping_in, damping, swapped, secondary, Strength, Strengths, none, strength, strengths, each_strength, no_strength, no_place, no_strengths, off_table, strengths_out, cdef_in, cdef_off}
use Rattle.cdef.proofs.Laws.{strengths-back}
use Rattle.fill.specs.Fills.{Layout, natural, at, of, each, ◌▸◌, Fills, fills}
use Rattle.fill.proofs.Filling.{Laid, laid, begin, final, put_no, was, settled}
use Rattle.fill.proofs.Signs.{signed_fillings}
use Rattle.fill.proofs.Looping.{Rest, rest_all, rest_halt, rest_end}
use Rattle.parts.specs.Codes.{zip, firsts, seconds}
use Rattle.parts_reader.specs.Reading.{In, number_at}
use Rattle.parts_reader.proofs.Storing.{put_fit}
use Rattle.parts_reader.proofs.Looping.{below, all_filled, most_filled}
use Rattle.parts_reader.proofs.Packing.{field-done, field_halt, two-fields, two_stop}
use Rattle.cdef_reader.specs.Layout.{strength_place, strengths_place, each_place, cdef_place}

-- the damping: two bits
module _ {p q : BitReader} where
  pub damping_small : {v : ℕ} → Said (f 2 0 0).dec p q (Ok v) → Fits w32 (v + 3)
  damping_small s = record { fits = omega (arith, f_fits 2 0 0 s) }

  pub damping-done : {v : ℕ} → Said (f 2 0 0).dec p q (Ok v) → Said damping.dec p q (Ok (v + 3))
  unfolding damping
  damping-done s = field-done 2 damping_in s

  pub damping_halt : {y : Refusal} {r : Result ℕ Refusal} → Said (f 2 0 0).dec p q (Err y) → IsErrAnd r (λ z. z ≡ y) → Said damping.dec p q r
  unfolding damping
  damping_halt s i = field_halt 2 damping_in s i

-- a strength: four bits, and two of which 3 stands for 4
secondary_fits : (v : ℕ) → v < 4 → SFits w32 (pos (swapped v))
secondary_fits v h = rw (ne_eqb v 4 (λ e. omega arith)) (go (eqb v 3))
  where
    go : (b : Bool) → SFits w32 (pos (cond b 4 v))
    go true = record { sfits = omega arith }
    go false = record { sfits = omega arith }

module _ {p q : BitReader} where
  strength-said : {v : ℕ} → Said (f 6 0 0).dec p q (Ok v) → Said (strength 0 0 0).dec p q (Ok (v / 4, swapped (v % 4)))
  unfolding strength secondary checked ◌▷◌
  strength-said s = two-fields 4 2 swapped s

  strength-not : {y : Refusal} → Said (f 6 0 0).dec p q (Err y) → Said (strength 0 0 0).dec p q (Err y)
  unfolding strength secondary checked ◌▷◌
  strength-not s = two_stop 4 2 swapped s

  module _ (pri sec : ℕ) where
    pub strength-done : {v : ℕ} {x : ℤ} {m : List ℤ} → Said (f 6 0 0).dec p q (Ok v) → x ≡ pos (swapped (v % 4))
        → Fills (strength_place pri sec) (strength 0 0 0).dec p q (Ok nil) m (set (set m pri (to_z w32 (of_z w32 (pos (v / 4))))) sec (to_z w32 (of_z w32 x)))
    unfolding strength_place ◌▸◌ at
    strength-done {v} s h =
        let a : SFits w32 (pos (v / 4)) = record { sfits = omega (arith, f_fits 6 0 0 s) } in
        rw (h, to_z-of_z a, to_z-of_z (secondary_fits (v % 4) (omega arith))) (begin (strength 0 0 0) (laid (last (strength 0 0 0) (strength-said s) refl)))

    pub strength_halt : {y : Refusal} {r : Result Nil Refusal} {m z : List ℤ} → Said (f 6 0 0).dec p q (Err y) → IsErrAnd r (λ z. z ≡ y) → Fills (strength_place pri sec) (strength 0 0 0).dec p q r m z
    strength_halt s i = begin (strength 0 0 0) (put_no (strength 0 0 0) (strength-not s) i)

-- a strength is read whatever its elements
pub strength_of : (a b i : ℕ) {M : Type 0} {l : Layout M Strength} {p q : BitReader} {g : Result Nil Refusal} {m n : M} → Fills l (strength 0 0 0).dec p q g m n → Fills l (strength a b i).dec p q g m n
unfolding strength secondary checked f ◌▷◌
strength_of a b i r = r

-- a place that is not coded
pub no-place-laid : (i : ℕ) {p : BitReader} {m : List ℤ} → Laid (strengths_place i) (absent none) p p (Ok nil) m (set (set (set (set m (6 + i) (pos 0)) (14 + i) (pos 0)) (22 + i) (pos 0)) (30 + i) (pos 0))
unfolding strengths_place strength_place ◌▸◌ at
no-place-laid i = settled (absent none) none (by_absent none) refl

-- the loop over the eight places, of which `count` are coded
abbrev pub Places : ℕ → ℕ → BitReader → List ℤ → BitReader → List ℤ → ℕ → Type 0
Places planes count c m₀ p m i = Rest none strengths_place (below none (strengths planes) count) 8 8 c m₀ p m i

module _ (planes count : ℕ) {p q : BitReader} {g : Result Nil Refusal} {m z : List ℤ} where
  each_laid : Laid (each none strengths_place 8 0 8) (array none (below none (strengths planes) count) 8 0 8) p q g m z → Fills each_place (each_strength planes count).dec p q g m z
  unfolding each_place each_strength
  each_laid h = all_filled none (strengths planes) count 8 (begin _ h)

module _ (planes count : ℕ) {c : BitReader} {m₀ : List ℤ} where
  pub places_all : Places planes count c m₀ c m₀ 0
  places_all = rest_all (lit≤ tt)

  module _ {p : BitReader} {m : List ℤ} {i : ℕ} (r : Places planes count c m₀ p m i) where
    pub places_halt : i < 8 → {s : BitReader} {n o : List ℤ} {y : Refusal} {g : Result Nil Refusal} → Fills (strengths_place i) (choose (ltb i count) (strengths planes i) (absent none)).dec p s (Err y) m n → IsErrAnd g (λ z. z ≡ y)
        → Fills each_place (each_strength planes count).dec c s g m₀ o
    places_halt h f e = each_laid planes count (rest_halt r h f e)

    pub places_end : 8 ≤ i → Fills each_place (each_strength planes count).dec c p (Ok nil) m₀ m
    places_end h = each_laid planes count (rest_end r h)

-- a damping, stored
pub damping_fits : {p q : BitReader} {v : ℕ} → Said damping.dec p q (Ok v) → SFits w32 (pos v)
unfolding damping
damping_fits r = let w = was (λ bs. damping_in (from_bits bs)) (take_bits 2) r in rw w.made (record { sfits = omega (arith, bits_small 2 (reads w.reads)) })

pub put_damping : (i : ℕ) {B : Type 0} (j : In B) (k : ℕ → Codec B) {p q n : BitReader} {v : ℕ} {g : Result Nil Refusal} {m z : List ℤ} → Said damping.dec p q (Ok v) → Laid j (k v) q n g (set m i (to_z w32 (of_z w32 (pos v)))) z → Laid (number_at i natural ▸ j) (damping ▷ k) p n g m z
put_damping i j k r h = put_fit i damping r (damping_fits r) j k h

-- the places that are coded; and none, where the filter is off
module _ {p q : BitReader} {g : Result Nil Refusal} {m z : List ℤ} where
  pub final_each : (planes bits : ℕ) {n : ℕ} → n ≡ min (2 ^ bits) 8 → Fills each_place (each_strength planes n).dec p q g m z → Laid each_place (each_strength planes (2 ^ bits)) p q g m z
  unfolding each_strength
  final_each planes bits e r = final (each_strength planes (2 ^ bits)) (most_filled none (strengths planes) (2 ^ bits) 8 (rw e at r)) refl

  pub off_laid : (planes : ℕ) → Fills each_place (each_strength planes 0).dec p q g (set (set m 5 (pos 3)) 4 (pos 0)) z → Laid cdef_place cdef_off p q g m z
  unfolding each_strength cdef_place cdef_off off_table no_strengths no_place no_strength array via ◌▷◌ choose absent inferred of at ◌▸◌ zip firsts seconds
  off_laid planes (fills (said e r)) = laid (completes (said e (record { finds = r.finds; moves = r.moves })))

-- the record, and its table's tuple
pub tuple_back : (a : ℕ × (ℕ × List Strengths)) → (a.0, (a.1.0, strengths_out (cdef_in a.0 a.1.0 a.1.1))) ≡ a
tuple_back a = λ i. (a.0, (a.1.0, strengths-back a.1.1 i))

pub ruleset cdef_fillings = (signed_fillings, damping_fits, put_damping, final_each, off_laid, tuple_back)

pub ruleset strength_fillings = (signed_fillings, damping_small, damping-done, damping_halt, strength-done, strength_halt, strength_of, no-place-laid, places_all, places_halt, places_end)
