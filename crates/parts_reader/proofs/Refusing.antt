-- A part's reader refuses a slice that is too long, and bits that end too soon, and nothing else.
use mathlib.Core.Path.{◌≡◌, refl, sym, ◌∙◌}
use mathlib.Core.List.{List, [], ◌∷◌}
use mathlib.Core.Bool.{Bool, true, false, cond}
use Prim.Native.Nat.{ℕ, zero, suc, ◌*◌, ◌<◌, ◌≤◌}
use borrow.Author.Tests.{lt-ltb, le-ltb}
use lib.Dec.{ltb}
use lib.IntN.{ℤ, pos}
use lib.ListN.{length}
use Rattle.bits.specs.Bits.{Bits, from, from_bits}
use Rattle.bits.specs.Codec.{Codec, Got, got, stop, and_then, take_bits, field_as, f, flag, absent, inferred, inferred_flag, choose, select, checked, merged, via, array, uncons, ◌▷◌}
use Rattle.bits.specs.Codes.{su, su_out, su_in}
use Rattle.std.specs.Prelude.{Err}
use Rattle.bits.specs.declared.answer.Refusal.{Refusal}
use Rattle.bits.specs.declared.answer.Refusal.TheVariants.{Ends, Long}
use Rattle.bits.proofs.Laws.{stop-got}
use Rattle.parts.specs.Codes.{inferred_signed, natural, natural_out, trimmed}
use Rattle.parts_reader.specs.Reading.{ended, read_part}
use Rattle.parts_reader.specs.Refusals.{OnlyEnds, only_ends}

of : {A : Type 0} {c : Codec A} → OnlyEnds c → (bs : Bits) (r : Refusal) → c.dec bs ≡ stop r → r ≡ Ends
of (only_ends h) = h

never : {A : Type 0} {a : A} {rest : Bits} {r : Refusal} → got a rest ≡ stop r → r ≡ Ends
never h = absurd (stop-got (sym h))

-- what comes behind something that was read
then_ends : {A B : Type 0} (g : Got A) (k : A → Bits → Got B) {r : Refusal} → ((y : Refusal) → g ≡ stop y → y ≡ Ends) → ((a : A) (rest : Bits) → k a rest ≡ stop r → r ≡ Ends) → and_then g k ≡ stop r → r ≡ Ends
then_ends (got a rest) k G K h = K a rest h
then_ends (stop y) k {r} G K h = let e : y ≡ r = cc in sym e ∙ G y refl

take_ends : (n : ℕ) (bs : Bits) (r : Refusal) → take_bits n bs ≡ stop r → r ≡ Ends
unfolding take_bits
take_ends zero bs r h = never h
take_ends (suc n) [] r h = let e : Ends ≡ r = cc in sym e
take_ends (suc n) (b ∷ bs) r h = then_ends (take_bits n bs) (λ xs rest. got (b ∷ xs) rest) (take_ends n bs) (λ a rest k. never k) h

-- so many bits of a value
pub field-ends : {A : Type 0} (n : ℕ) (out : A → ℕ) (in-again : ℕ → A) (y : A → Refusal) → OnlyEnds (field_as n out in-again y)
field-ends n out in-again y = only_ends (λ bs r h. then_ends (take_bits n bs) (λ xs rest. got (in-again (from_bits xs)) rest) (take_ends n bs) (λ a rest k. never k) h)

pub f-ends : (n e i : ℕ) → OnlyEnds (f n e i)
unfolding f
f-ends n e i = field-ends n (λ v. v) (λ v. v) _

pub su-ends : (n e i : ℕ) → OnlyEnds (su n e i)
unfolding su
su-ends n e i = field-ends n (su_out n) (su_in n) _

pub natural-ends : (n e i : ℕ) → OnlyEnds (natural n e i)
unfolding natural
natural-ends n e i = field-ends n (natural_out n) pos _

pub flag-ends : OnlyEnds flag
unfolding flag
flag-ends = only_ends go
  where
    go : (bs : Bits) (r : Refusal) → flag.dec bs ≡ stop r → r ≡ Ends
    go [] r h = let e : Ends ≡ r = cc in sym e
    go (b ∷ bs) r h = never h

pub absent-ends : {A : Type 0} (z : A) → OnlyEnds (absent z)
unfolding absent
absent-ends z = only_ends (λ bs r h. never h)

pub inferred-ends : (e i x : ℕ) → OnlyEnds (inferred e i x)
unfolding inferred
inferred-ends e i x = only_ends (λ bs r h. never h)

pub inferred_flag-ends : (e i : ℕ) (x : Bool) → OnlyEnds (inferred_flag e i x)
unfolding inferred_flag
inferred_flag-ends e i x = only_ends (λ bs r h. never h)

pub inferred_signed-ends : (e : ℕ) (x : ℤ) → OnlyEnds (inferred_signed e x)
unfolding inferred_signed
inferred_signed-ends e x = only_ends (λ bs r h. never h)

module _ {A B : Type 0} {c : Codec A} {k : A → Codec B} where
  pub seq_ends : OnlyEnds c → ((a : A) → OnlyEnds (k a)) → OnlyEnds (c ▷ k)
  unfolding ◌▷◌
  seq_ends C K = only_ends (λ bs r h. then_ends (c.dec bs) _ (of C bs) (λ a rest j. then_ends ((k a).dec rest) (λ b end. got (a, b) end) (of (K a) rest) (λ b end l. never l) j) h)

module _ {A : Type 0} {c d : Codec A} where
  pub choose-ends : (t : Bool) → OnlyEnds c → OnlyEnds d → OnlyEnds (choose t c d)
  unfolding choose
  choose-ends true C D = only_ends (of C)
  choose-ends false C D = only_ends (of D)

  pub select-ends : (t : Bool) → OnlyEnds c → OnlyEnds d → OnlyEnds (select t c d)
  unfolding select
  select-ends true C D = only_ends (of C)
  select-ends false C D = only_ends (of D)

module _ {A : Type 0} {c : Codec A} where
  pub checked-ends : (test : A → Bool) (y : Refusal) → OnlyEnds c → OnlyEnds (checked test y c)
  unfolding checked
  checked-ends test y C = only_ends (of C)

  pub trimmed-ends : (trim : A → A) → OnlyEnds c → OnlyEnds (trimmed trim c)
  unfolding trimmed
  trimmed-ends trim C = only_ends (λ bs r h. then_ends (c.dec bs) (λ a rest. got (trim a) rest) (of C bs) (λ a rest j. never j) h)

module _ {A B : Type 0} (to : B → A) (in-again : A → B) {c : Codec A} where
  pub via-ends : OnlyEnds c → OnlyEnds (via to in-again c)
  unfolding via
  via-ends C = only_ends (λ bs r h. then_ends (c.dec bs) (λ a rest. got (in-again a) rest) (of C bs) (λ a rest j. never j) h)

  pub merged-ends : OnlyEnds c → OnlyEnds (merged to in-again c)
  unfolding merged
  merged-ends C = only_ends (λ bs r h. then_ends (c.dec bs) (λ a rest. got (in-again a) rest) (of C bs) (λ a rest j. never j) h)

pub array-ends : {A : Type 0} (z : A) (item : ℕ → Codec A) → ((i : ℕ) → OnlyEnds (item i)) → (m i n : ℕ) → OnlyEnds (array z item m i n)
unfolding array
array-ends z item I zero i n = absent-ends []
array-ends z item I (suc m) i n = via-ends (uncons z) (λ p. p.0 ∷ p.1) (seq_ends (choose-ends (ltb i n) (I i) (absent-ends z)) λ _. array-ends z item I m (suc i) n)

pub ruleset endings = (f-ends, su-ends, natural-ends, flag-ends, absent-ends, inferred-ends, inferred_flag-ends, inferred_signed-ends, seq_ends, choose-ends, select-ends, checked-ends, trimmed-ends, via-ends, merged-ends, array-ends)

-- 8 exactly of a slice that is too long; else 4, and nothing else
module _ {A : Type 0} (c : Codec A) (place : ℕ) (xs : List ℕ) where
  pub too_long : 65536 < length xs → read_part c place xs ≡ Err Long
  unfolding read_part
  too_long h = rw (lt-ltb 65536 (length xs) h) refl

  pub ends_only : OnlyEnds c → length xs ≤ 65536 → {y : Refusal} → read_part c place xs ≡ Err y → y ≡ Ends
  unfolding read_part
  ends_only C h {y} e = go (ltb (length xs * 8) place) (rw (le-ltb 65536 (length xs) h) at e)
    where
      read : (g : Got A) → c.dec (from xs place) ≡ g → ended xs g ≡ Err y → y ≡ Ends
      read (got a rest) p k = cc
      read (stop r) p k = let q : r ≡ y = cc in sym q ∙ of C (from xs place) r p

      go : (t : Bool) → cond t (Err Ends) (ended xs (c.dec (from xs place))) ≡ Err y → y ≡ Ends
      go true k = let q : Ends ≡ y = cc in sym q
      go false k = read (c.dec (from xs place)) refl k
