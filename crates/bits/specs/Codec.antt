-- A syntax table, both ways: how a value is written, how it is read, which of it is coded, and all its spellings; and the forms that the
-- standard's tables are made of.
use Rattle.std.specs.Prelude.{◌≡◌, List, [], ◌∷◌, ◌++◌, Bool, true, false, cond, not, ℕ, zero, suc, eqb, ltb}
use Rattle.bits.specs.Bits.{Bits, from_bits}
use Rattle.bits.specs.Widths.{bit_length}
use Rattle.bits.specs.Walk.{Walk, none, field, unsigned, mark, demand, either, ◌⊕◌, wrote, run}
use Rattle.bits.specs.declared.answer.Refusal.{Refusal}
use Rattle.bits.specs.declared.answer.Refusal.TheVariants.{Inconsistent, Unfit, Ends, Reserved}

-- what reading finds: a value and the bits behind it, or a refusal
pub data Got (A : Type 0) : Type 0 where
  got : A → Bits → Got A
  stop : Refusal → Got A

abbrev pub and_then : {A B : Type 0} → Got A → (A → Bits → Got B) → Got B
and_then (got a rest) k = k a rest
and_then (stop r) k = stop r

pub record Codec (A : Type 0) : Type 1 where
  -- the walk that writes a value: its shortest spelling, or the refusal
  pub enc : A → Walk
  -- the walk that reads one
  pub dec : Bits → Got A
  -- the value with each field that is neither coded nor checked set to 0: all that the bits hold
  pub coded : A → A
  -- these bits are a spelling of the value
  pub spells : A → Bits → Type 0

-- where there is one spelling, it is the one written
abbrev pub single : {A : Type 0} → (A → Walk) → (Bits → Got A) → Codec A
single e d = record { enc = e; dec = d; coded = λ a. a; spells = λ a bs. run (e a) ≡ wrote bs }

-- the next n bits
unfoldable pub take_bits : ℕ → Bits → Got Bits
take_bits zero bs = got [] bs
take_bits (suc n) [] = stop Ends
take_bits (suc n) (b ∷ bs) = and_then (take_bits n bs) (λ xs rest. got (b ∷ xs) rest)

-- n bits of a value: a number that codes it, the value that a number codes, and the refusal where the n bits do not hold its number
abbrev pub field_as : {A : Type 0} → ℕ → (A → ℕ) → (ℕ → A) → (A → Refusal) → Codec A
field_as n to from r = single (λ a. field n (to a) (r a)) (λ bs. and_then (take_bits n bs) (λ xs rest. got (from (from_bits xs)) rest))

-- f(n), as element e, index i
unfoldable pub f : ℕ → ℕ → ℕ → Codec ℕ
f n e i = field_as n (λ v. v) (λ v. v) (λ v. Unfit e i (bit_length v))

-- one bit, a flag
abbrev pub take_flag : Bits → Got Bool
take_flag [] = stop Ends
take_flag (b ∷ bs) = got b bs

unfoldable pub flag : Codec Bool
flag = single (λ b. mark b) take_flag

-- nothing is coded, nothing is looked at: reads as z
unfoldable pub absent : {A : Type 0} → A → Codec A
absent z = record { enc = λ _. none; dec = λ bs. got z bs; coded = λ _. z; spells = λ _ bs. wrote [] ≡ wrote bs }

-- nothing is coded, and the value must be x
unfoldable pub inferred : ℕ → ℕ → ℕ → Codec ℕ
inferred e i x = single (λ a. demand (eqb a x) (Inconsistent e i)) (λ bs. got x bs)

-- the same for a flag
abbrev pub same_flag : Bool → Bool → Bool
same_flag b true = b
same_flag b false = not b

unfoldable pub inferred_flag : ℕ → ℕ → Bool → Codec Bool
inferred_flag e i x = single (λ a. demand (same_flag a x) (Inconsistent e i)) (λ bs. got x bs)

-- a part, and then a part that may go by what the first one coded
infixr 35 ◌▷◌
unfoldable pub ◌▷◌ : {A B : Type 0} → Codec A → (A → Codec B) → Codec (A × B)
c ▷ k = record {
  enc = λ p. c.enc p.0 ⊕ (k (c.coded p.0)).enc p.1;
  dec = λ bs. and_then (c.dec bs) (λ a rest. and_then ((k a).dec rest) (λ b end. got (a, b) end));
  coded = λ p. (c.coded p.0, (k (c.coded p.0)).coded p.1);
  spells = λ p bs. (x : Bits) × (y : Bits) × (c.spells p.0 x) × ((k (c.coded p.0)).spells p.1 y) × (x ++ y ≡ bs);
}

-- one of two forms, by what is known already
unfoldable pub choose : {A : Type 0} → Bool → Codec A → Codec A → Codec A
choose t c d = record {
  enc = λ a. either t (c.enc a) (d.enc a);
  dec = λ bs. cond t (c.dec bs) (d.dec bs);
  coded = λ a. cond t (c.coded a) (d.coded a);
  spells = λ a bs. cond t (c.spells a bs) (d.spells a bs);
}

-- the same of two forms that each code all of the value
unfoldable pub select : {A : Type 0} → Bool → Codec A → Codec A → Codec A
select t c d = record {
  enc = λ a. either t (c.enc a) (d.enc a);
  dec = λ bs. cond t (c.dec bs) (d.dec bs);
  coded = λ a. a;
  spells = λ a bs. cond t (c.spells a bs) (d.spells a bs);
}

-- the same bits for a value of another type: a table for a struct
unfoldable pub via : {A B : Type 0} → (B → A) → (A → B) → Codec A → Codec B
via to from c = record {
  enc = λ b. c.enc (to b);
  dec = λ bs. and_then (c.dec bs) (λ a rest. got (from a) rest);
  coded = λ b. from (c.coded (to b));
  spells = λ b bs. c.spells (to b) bs;
}

-- a value that the rules may forbid: looked at before its bits are written, and after they are read
unfoldable pub allowed : {A : Type 0} → (A → Bool) → Refusal → Codec A → Codec A
allowed test r c = record {
  enc = λ a. demand (test (c.coded a)) r ⊕ c.enc a;
  dec = λ bs. and_then (c.dec bs) (λ a rest. cond (test a) (got a rest) (stop r));
  coded = c.coded;
  spells = λ a bs. (test (c.coded a) ≡ true) × c.spells a bs;
}

-- the same, looked at after its bits are written
unfoldable pub within : {A : Type 0} → (A → Bool) → Refusal → Codec A → Codec A
within test r c = record {
  enc = λ a. c.enc a ⊕ demand (test (c.coded a)) r;
  dec = λ bs. and_then (c.dec bs) (λ a rest. cond (test a) (got a rest) (stop r));
  coded = c.coded;
  spells = λ a bs. (test (c.coded a) ≡ true) × c.spells a bs;
}

-- a check made before the first bit is written, which what is read always meets
unfoldable pub checked : {A : Type 0} → (A → Bool) → Refusal → Codec A → Codec A
checked test r c = record {
  enc = λ a. demand (test a) r ⊕ c.enc a;
  dec = c.dec;
  coded = c.coded;
  spells = λ a bs. (test a ≡ true) × c.spells a bs;
}

-- a number that several values of the table stand for: each spells it, and one of them is written
unfoldable pub merged : {A B : Type 0} → (B → A) → (A → B) → Codec A → Codec B
merged {A} to from c = record {
  enc = λ b. c.enc (to b);
  dec = λ bs. and_then (c.dec bs) (λ a rest. got (from a) rest);
  coded = λ b. b;
  spells = λ b bs. (a : A) × (from a ≡ b) × c.spells a bs;
}

-- the type with one value
abbrev pub Nil : Type 0
Nil = Unit {0}

abbrev pub nil : Nil
nil = tt

-- n reserved bits, all 0
abbrev pub read_zeros : ℕ → Bits → Got Nil
read_zeros n bs = and_then (take_bits n bs) (λ xs rest. cond (eqb (from_bits xs) 0) (got nil rest) (stop Reserved))

unfoldable pub zeros : ℕ → Codec Nil
zeros n = single (λ _. unsigned n 0 0 0) (read_zeros n)

-- the items from place i on of an array that has m more places; those below n are coded, the others are z
abbrev pub uncons : {A : Type 0} → A → List A → A × List A
uncons z [] = (z, [])
uncons z (x ∷ xs) = (x, xs)

unfoldable pub array : {A : Type 0} → A → (ℕ → Codec A) → ℕ → ℕ → ℕ → Codec (List A)
array z item zero i n = absent []
array z item (suc m) i n = via (uncons z) (λ p. p.0 ∷ p.1) (choose (ltb i n) (item i) (absent z) ▷ λ _. array z item m (suc i) n)
