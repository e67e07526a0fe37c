-- Demand 3: what is promised of up to 65,536 bytes, given to the reader as one OBU, whoever made them. The OBU's table c says how its record is
-- written and read, which of its fields are coded, and what spells it.
use Rattle.std.specs.Prelude.{◌≡◌, List, [], ◌∷◌, ◌++◌, cond, ℕ, ◌<◌, ◌≤◌, length, drop, ltb, Ok}
use Rattle.bits.specs.Bits.{Bits, bits_of}
use Rattle.bits.specs.Walk.{done, run}
use Rattle.bits.specs.Codec.{Codec, Got, got, stop, Nil}
use Rattle.bits.specs.declared.answer.Refusal.TheVariants.{Long}
use Rattle.obu.specs.Writer.{written}

-- numbers that are bytes
abbrev pub AreBytes : List ℕ → Type 0
AreBytes [] = Nil
AreBytes (x ∷ xs) = (x < 256) × AreBytes xs

module _ {A : Type 0} (c : Codec A) where
  -- what the reader makes of a slice: the record, or the refusal
  unfoldable pub read : List ℕ → Got A
  read xs = cond (ltb 65536 (length xs)) (stop Long) (c.dec (bits_of xs))

  -- neither the header nor the walk refuses the record
  abbrev pub Consistent : A → Type 0
  Consistent a = (run (c.enc a)).end ≡ done

  -- the bytes are a spelling of the record
  pub record Spells (a : A) (xs : List ℕ) : Type 0 where
    pub bytes : AreBytes xs
    pub few : length xs ≤ 65536
    pub spelling : c.spells a (bits_of xs)

  -- written with room enough, the record gives es: it stands at the buffer's start, its length is the answer, and every byte beyond is kept
  abbrev pub Gives : A → List ℕ → Type 0
  Gives a es = (buffer : List ℕ) → AreBytes buffer → length es ≤ length buffer → length buffer ≤ 65536
      → written (c.enc a) buffer ≡ record { answer = Ok (length es); bytes = es ++ drop (length es) buffer }

  -- es is the one shortest spelling of the record
  pub record Shortest (a : A) (es : List ℕ) : Type 0 where
    pub spells : Spells a es
    pub least : (xs : List ℕ) → Spells a xs → length es ≤ length xs
    pub only : (xs : List ℕ) → Spells a xs → length xs ≡ length es → xs ≡ es

  pub record Demand3 : Type 0 where
    -- Accepted exactly when some consistent record has the bytes as a spelling: what is accepted is spelled by the record that is read, which is
    -- consistent and all coded, ..
    pub accepted_is_spelled : (xs : List ℕ) → AreBytes xs → (a : A) (rest : Bits) → read xs ≡ got a rest → Consistent a × Spells a xs × (c.coded a ≡ a)
    -- .. and every spelling is accepted, with the record's coded fields.
    pub spelled_is_accepted : (a : A) (xs : List ℕ) → Spells a xs → read xs ≡ got (c.coded a) []
    -- The bytes fix every coded field.
    pub fields_are_fixed : (a b : A) (xs : List ℕ) → Spells a xs → Spells b xs → c.coded a ≡ c.coded b
    -- Spelled exactly when consistent: a record that has a spelling is consistent, ..
    pub spelled_is_consistent : (a : A) (xs : List ℕ) → Spells a xs → Consistent a
    -- .. and a consistent record has one shortest spelling. Written with room enough, and so written again, it gives that.
    pub consistent_is_written : (a : A) → Consistent a → (es : List ℕ) × Shortest a es × Gives a es
