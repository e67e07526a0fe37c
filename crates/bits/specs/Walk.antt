-- A walk: the fields and checks that a record is written by, in their order, as the standard's syntax tables say them; what a walk comes to, where
-- the first refusal wins (document 01, "Writing").
use Rattle.std.specs.Prelude.{[], ◌∷◌, ◌++◌, Bool, cond, ℕ, ◌+◌, ◌^◌, max, ltb}
use Rattle.bits.specs.Bits.{Bits, to_bits}
use Rattle.bits.specs.Widths.{bit_length}
use Rattle.bits.specs.declared.answer.Refusal.{Refusal}
use Rattle.bits.specs.declared.answer.Refusal.TheVariants.{Unfit}

infixr 60 ◌⊕◌
pub data Walk : Type 0 where
  -- nothing is written
  none : Walk
  -- n bits of a number, else the refusal
  field : (n value : ℕ) → Refusal → Walk
  -- f(1) of a flag
  mark : Bool → Walk
  -- nothing is written, and a test must hold, else the refusal
  demand : Bool → Refusal → Walk
  refuse : Refusal → Walk
  -- one walk where a flag is set, and another where it is not
  either : Bool → Walk → Walk → Walk
  -- one walk and then another: the first refusal ends both
  ◌⊕◌ : Walk → Walk → Walk

-- f(n) of a number, whose refusal names the element, the index and the least width that would hold the number
abbrev pub unsigned : (n value element index : ℕ) → Walk
unsigned n v e i = field n v (Unfit e i (bit_length v))

-- how a walk ended: at its end, or at the first element that earned a refusal
pub data End : Type 0 where
  done : End
  refused : Refusal → End

-- the bits that were written, all or those before the refusal, and the end
pub record Out : Type 0 where
  pub bits : Bits
  pub end : End

abbrev pub wrote : Bits → Out
wrote bs = record { bits = bs; end = done }

abbrev pub refuses : Refusal → Out
refuses r = record { bits = []; end = refused r }

abbrev pub after : End → Bits → Out → Out
after done bs p = record { bits = bs ++ p.bits; end = p.end }
after (refused r) bs p = record { bits = bs; end = refused r }

unfoldable pub join : Out → Out → Out
join o p = after o.end o.bits p

-- what a walk comes to
unfoldable pub run : Walk → Out
run none = wrote []
run (field n v r) = cond (ltb v (2 ^ n)) (wrote (to_bits n v)) (refuses r)
run (mark b) = wrote (b ∷ [])
run (demand t r) = cond t (wrote []) (refuses r)
run (refuse r) = refuses r
run (either t a b) = cond t (run a) (run b)
run (a ⊕ b) = join (run a) (run b)

-- the most bits that a walk can write, whatever its flags
unfoldable pub bound : Walk → ℕ
bound none = 0
bound (field n v r) = n
bound (mark b) = 1
bound (demand t r) = 0
bound (refuse r) = 0
bound (either t a b) = max (bound a) (bound b)
bound (a ⊕ b) = bound a + bound b

-- the bits that a walk writes where it comes to its end, by its widths and its flags
unfoldable pub count : Walk → ℕ
count none = 0
count (field n v r) = n
count (mark b) = 1
count (demand t r) = 0
count (refuse r) = 0
count (either t a b) = cond t (count a) (count b)
count (a ⊕ b) = count a + count b
