-- How the shifts of 5.9.20 are read, what is stored of the planes in use, and where nothing is restored.
use mathlib.Core.Path.{◌≡◌, refl, ap, ◌∙◌}
use mathlib.Core.List.{List, [], ◌∷◌}
use mathlib.Core.Bool.{Bool, true, false}
use Prim.Native.Nat.{ℕ, ◌+◌, ◌*◌, ◌/◌, ◌%◌, ◌<◌, ◌≤◌}
use native.Mathlib.Omega.{arith}
use lib.IntN.{ℤ, pos}
use lib.ListN.{set}
use mir.Syntax.{w32}
use mir.Val.{Fits, SFits, to_z, of_z}
use mir.Facts.{to_z-of_z}
use Rattle.std.specs.Prelude.{Result, Ok, Err, IsErrAnd}
use Rattle.bits.specs.Bits.{Bits, from_bits, from}
use Rattle.bits.specs.Codec.{Codec, Got, got, stop, and_then, take_bits, f, flag, absent, inferred, inferred_flag, choose, checked, merged, ◌▷◌, Nil, nil}
use Rattle.bits.specs.Answers.{found, Moved}
use Rattle.bits.specs.declared.answer.Refusal.{Refusal}
use Rattle.bits.proofs.Laws.{stop-got, got-value}
use Rattle.bits.proofs.Numbers.{from_lt}
use Rattle.reader.specs.declared.BitReader.{BitReader}
use Rattle.reader.specs.Reading.{Said, said, completes}
use Rattle.reader.proofs.Reading.{readings, start, one_of, on, halt, yes, no, nothing, stops, reads, fixed_reads, by_absent, f_fits}
use Rattle.fill.specs.Fills.{Layout, Way, at, ◌▸◌, Fills}
use Rattle.fill.proofs.Filling.{Laid, laid, final, group_on, put_halt}
use Rattle.fill.proofs.Signs.{signed_fillings}
use Rattle.parts_reader.proofs.Packing.{field-done, field_halt}
use Rattle.parts_reader.proofs.Storing.{sayings, put_fit, fit_last, known_bit_on}
use Rattle.restoration.specs.declared.record.LoopRestorationContext.{LoopRestorationContext}
use Rattle.restoration.specs.Restoration.{large_in, large_shift, small_in, small_shift, unit_shift, uv_shift, used, chroma_used, uses, kinds, three_planes, no_kinds, no_planes}
use Rattle.restoration_reader.specs.Layout.{shifts_place, uses_place, planes_place}

-- a bit that is one less than the shift
module _ {p q : BitReader} where
  pub shift_sum : {v : ℕ} → Said (f 1 0 0).dec p q (Ok v) → Fits w32 (v + 1)
  shift_sum s = record { fits = omega (arith, f_fits 1 0 0 s) }

  pub large_coded : {v : ℕ} → Said (f 1 0 0).dec p q (Ok v) → Said large_shift.dec p q (Ok (v + 1))
  unfolding large_shift checked
  large_coded s = field-done 1 large_in s

  pub large_halt : {y : Refusal} {r : Result ℕ Refusal} → Said (f 1 0 0).dec p q (Err y) → IsErrAnd r (λ z. z ≡ y) → Said large_shift.dec p q r
  unfolding large_shift checked
  large_halt s i = field_halt 1 large_in s i

-- the same bit behind a flag
same_bit : (g : Got Bits) → and_then (and_then g (λ bs rest. got (from_bits bs) rest)) (λ v rest. got (small_in (true, v)) rest) ≡ and_then g (λ bs rest. got (large_in (from_bits bs)) rest)
same_bit (got bs rest) = refl
same_bit (stop y) = refl

module _ {p q : BitReader} where
  pub small_halt : {y : Refusal} {r : Result ℕ Refusal} → Said flag.dec p q (Err y) → IsErrAnd r (λ z. z ≡ y) → Said small_shift.dec p q r
  unfolding small_shift
  small_halt s i = start _ (one_of _ _ _ (halt flag _ s i))

  module _ {b : Bool} (i : Said flag.dec p q (Ok b)) where
    pub small_coded : b ≡ true → {n : BitReader} {g : Result ℕ Refusal} → Said large_shift.dec q n g → Said small_shift.dec p n g
    unfolding small_shift large_shift checked
    small_coded h (said e r) = start _ (one_of _ _ _ (on flag _ i (yes b _ _ h (rw h (completes (said e (record { finds = same_bit (take_bits 1 (from q.bytes.now q.at)) ∙ r.finds; moves = r.moves })))))))

    pub small_none : b ≡ false → Said small_shift.dec p q (Ok 0)
    unfolding small_shift
    small_none h = start _ (one_of _ _ _ (on flag _ i (no b _ _ h (nothing 0 (rw h)))))

pub ruleset lr_readings = (readings, sayings, shift_sum, large_coded, large_halt, small_halt, small_coded, small_none)

-- a shift fits
large-most : (bs : Bits) {v : ℕ} {rest : Bits} → large_shift.dec bs ≡ got v rest → v ≤ 2
unfolding large_shift checked take_bits
large-most [] h = absurd (stop-got h)
large-most (a ∷ bs) {v} h = let e : from_bits (a ∷ []) + 1 ≡ v = got-value h in omega (arith, from_lt (a ∷ []))

small-most : (bs : Bits) {v : ℕ} {rest : Bits} → small_shift.dec bs ≡ got v rest → v ≤ 2
unfolding small_shift merged ◌▷◌ flag choose absent take_bits
small-most [] h = absurd (stop-got h)
small-most (false ∷ bs) {v} h = let e : 0 ≡ v = got-value h in omega arith
small-most (true ∷ []) h = absurd (stop-got h)
small-most (true ∷ a ∷ bs) {v} h = let e : from_bits (a ∷ []) + 1 ≡ v = got-value h in omega (arith, from_lt (a ∷ []))

unit-most : (large : Bool) (bs : Bits) {v : ℕ} {rest : Bits} → (unit_shift large).dec bs ≡ got v rest → v ≤ 2
unfolding unit_shift choose
unit-most true bs h = large-most bs h
unit-most false bs h = small-most bs h

uv-most : (coded : Bool) (bs : Bits) {v : ℕ} {rest : Bits} → (uv_shift coded).dec bs ≡ got v rest → v ≤ 2
unfolding uv_shift choose f inferred take_bits
uv-most true [] h = absurd (stop-got h)
uv-most true (a ∷ bs) {v} h = let e : from_bits (a ∷ []) ≡ v = got-value h in omega (arith, from_lt (a ∷ []))
uv-most false bs {v} h = let e : 0 ≡ v = got-value h in omega arith

module _ (b : Bool) {p q : BitReader} {v : ℕ} where
  pub unit_fits : Said (unit_shift b).dec p q (Ok v) → SFits w32 (pos v)
  unfolding found
  unit_fits s = record { sfits = omega (arith, unit-most b _ (reads s).finds) }

  pub uv_fits : Said (uv_shift b).dec p q (Ok v) → SFits w32 (pos v)
  unfolding found
  uv_fits s = record { sfits = omega (arith, uv-most b _ (reads s).finds) }

-- the planes in use, by tests that functions made
pub final_uses : (context : LoopRestorationContext) (y : ℕ) (restored chroma b : Bool) {p q : BitReader} {g : Result Nil Refusal} {m n z : List ℤ}
    → Fills uses_place (uses context restored chroma).dec p q g m n → restored ≡ used y chroma → chroma ≡ b → z ≡ n → Laid uses_place (uses context (used y b) b) p q g m z
final_uses context y restored chroma b f h e k = final (uses context (used y b) b) (rw (← e, ← h) f) k

-- the three kinds, as one number of six bits
kinds-of : (y u v : ℕ) → y < 4 → u < 4 → v < 4 → (k : ℕ) → k ≡ y * 16 + (u * 4 + v) → ◌≡◌ {A = ℕ × (ℕ × ℕ)} (y, (u, v)) (k / 16, (k / 4 % 4, k % 4))
kinds-of y u v h l m k e =
    let a : y ≡ k / 16 = omega arith in
    let b : u ≡ k / 4 % 4 = omega arith in
    let c : v ≡ k % 4 = omega arith in
    λ i. (a i, (b i, c i))

six : (bs : Bits) → kinds.dec bs ≡ and_then ((f 6 0 0).dec bs) (λ k rest. got (k / 16, (k / 4 % 4, k % 4)) rest)
unfolding kinds ◌▷◌ f take_bits from_bits
six [] = refl
six (a ∷ []) = refl
six (a ∷ b ∷ []) = refl
six (a ∷ b ∷ c ∷ []) = refl
six (a ∷ b ∷ c ∷ d ∷ []) = refl
six (a ∷ b ∷ c ∷ d ∷ e ∷ []) = refl
six (a ∷ b ∷ c ∷ d ∷ e ∷ g ∷ rest) = ap (λ (p : ℕ × (ℕ × ℕ)). got p rest) (kinds-of (from_bits (a ∷ b ∷ [])) (from_bits (c ∷ d ∷ [])) (from_bits (e ∷ g ∷ [])) (from_lt (a ∷ b ∷ [])) (from_lt (c ∷ d ∷ [])) (from_lt (e ∷ g ∷ [])) _ (omega arith))

module _ {p q : BitReader} where
  kinds-said : {k : ℕ} → Said (f 6 0 0).dec p q (Ok k) → Said kinds.dec p q (Ok (k / 16, (k / 4 % 4, k % 4)))
  unfolding found Moved
  kinds-said (said e r) = said e (record { finds = six (from p.bytes.now p.at) ∙ rw r.finds; moves = r.moves })

  module _ (context : LoopRestorationContext) where
    pub onward_kinds : {k : ℕ} {s : BitReader} {g : Result Nil Refusal} {m z : List ℤ} → Said (f 6 0 0).dec p q (Ok k)
        → Laid uses_place (uses context (used (k / 16) (chroma_used (k / 4 % 4) (k % 4))) (chroma_used (k / 4 % 4) (k % 4))) q s g
        (set (set (set m 7 (to_z w32 (of_z w32 (pos (k / 16))))) 8 (to_z w32 (of_z w32 (pos (k / 4 % 4))))) 9 (to_z w32 (of_z w32 (pos (k % 4))))) z
        → Laid planes_place (three_planes context) p s g m z
    unfolding planes_place three_planes ◌▸◌ at
    onward_kinds {k} s (laid r) =
        let o : SFits w32 (pos (k / 16)) = record { sfits = omega (arith, f_fits 6 0 0 s) } in
        let a : SFits w32 (pos (k / 4 % 4)) = record { sfits = omega arith } in
        let b : SFits w32 (pos (k % 4)) = record { sfits = omega arith } in
        laid (on kinds _ (kinds-said s) (rw (to_z-of_z o, to_z-of_z a, to_z-of_z b) at r))

    pub halted_kinds : {y : Refusal} {g : Result Nil Refusal} {m z : List ℤ} → Said (f 6 0 0).dec p q (Err y) → IsErrAnd g (λ z. z ≡ y) → Laid planes_place (three_planes context) p q g m z
    unfolding three_planes
    halted_kinds s i = put_halt kinds _ (stops kinds.dec s (λ bs e. six bs ∙ rw e)) i

-- two values at once, and what comes behind them
pub nothing_pair_on : {A B C N : Type 0} (d o : N) (i j : ℕ) (g : Way N A) (h : Way N B) (b : A × B) (l : Layout (List N) C) (k : A × B → Codec C) {p s : BitReader} {r : Result Nil Refusal} {m z : List N}
    → Laid l (k b) p s r (set (set m i (g.to b.0)) j (h.to b.1)) z → Laid ((at d i g ▸ at o j h) ▸ l) (absent b ▷ k) p s r m z
unfolding at ◌▸◌
nothing_pair_on d o i j g h b l k (laid r) = laid (on (absent b) k (fixed_reads _ (by_absent b)) r)

-- nothing is restored
pub none_restored : {p : BitReader} {m : List ℤ} → Laid planes_place no_planes p p (Ok nil) m (set (set (set (set (set (set (set m 7 (pos 0)) 8 (pos 0)) 9 (pos 0)) 10 (pos 0)) 11 (pos 0)) 12 (pos 0)) 13 (pos 0))
unfolding planes_place uses_place shifts_place no_planes no_kinds ◌▸◌ at ◌▷◌ absent inferred inferred_flag found Moved
none_restored = laid (completes (said refl (record { finds = refl; moves = refl })))

pub ruleset lr_fillings = (signed_fillings, unit_fits, uv_fits, put_fit, fit_last, group_on, final_uses, known_bit_on, nothing_pair_on, onward_kinds, halted_kinds, none_restored)
