-- How a function that reads in place meets its table.
use mathlib.Core.Path.{◌≡◌, refl, sym, ap, subst, ◌∙◌}
use mathlib.Core.List.{List}
use mathlib.Core.Bool.{Bool, true, false, not}
use Prim.Native.Nat.{ℕ, ◌<◌, ◌≤◌}
use lib.ListN.{set}
use lib.Dec.{ltb, eqb}
use borrow.Author.Tests.{lt-ltb, le-ltb, eq-eqb, ne_eqb, not-true, not-false}
use Rattle.std.specs.Prelude.{Result, Ok, Err, IsErrAnd}
use Rattle.std.specs.Result.{result_from_control_flow}
use Rattle.std.specs.declared.ops.ControlFlow.TheVariants.{Continue, Break}
use Rattle.bits.specs.Bits.{Bits, from}
use Rattle.bits.specs.Codec.{Codec, Got, got, stop, and_then, f, absent, inferred, inferred_flag, checked, choose, select, via, ◌▷◌, Nil, nil}
use Rattle.bits.specs.Answers.{found, Moved}
use Rattle.bits.specs.declared.answer.Refusal.{Refusal}
use Rattle.bits.proofs.Laws.{stop-got, got-value, got-rest}
use Rattle.reader.specs.declared.BitReader.{BitReader}
use Rattle.reader.specs.Reading.{placed, Said, said, Completes, completes}
use Rattle.reader.proofs.Reading as reading
use Rattle.reader.proofs.Reading.{exit, went, went_not, By, by_dec, by_f, f_of, read_by, Fixed, fixed_reads, by_absent, by_inferred, by_inferred_flag, on, halt, last, last_no, remade}
use Rattle.fill.specs.Fills.{Way, Layout, at, ◌▸◌, of, beside, Fills, fills}

-- One answer: two that the contract allows are equal, and so is what they leave, where they are not refused.
abbrev without : {M : Type 0} → Result (M × ℕ) Refusal → Result Nil Refusal
without (Ok p) = Ok nil
without (Err y) = Err y

of-beside : {M : Type 0} (g : Result Nil Refusal) (m : M) (q : ℕ) → without (placed (beside g m) q) ≡ g
of-beside (Ok u) m q = refl
of-beside (Err y) m q = refl

module _ {A M : Type 0} {l : Layout M A} {d : Bits → Got A} {p q o : BitReader} {g h : Result Nil Refusal} {m n k : M} where
  alike : Fills l d p q g m n → Fills l d p o h m k → placed (beside g n) q.at ≡ placed (beside h k) o.at
  alike (fills r) (fills s) = reading.only r s

  pub only : Fills l d p q g m n → Fills l d p o h m k → g ≡ h
  only i j = sym (of-beside g n q.at) ∙ ap without (alike i j) ∙ of-beside h k o.at

  pub only_content : Fills l d p q g m n → Fills l d p o h m k → g ≡ Ok nil → (n ≡ k) × (q.at ≡ o.at)
  only_content i j e =
      let u : placed (beside (Ok nil) n) q.at ≡ placed (beside (Ok nil) k) o.at = rw (sym (only i j) ∙ e) at (rw e at (alike i j)) in
      let v : ◌≡◌ {A = M × ℕ} (n, q.at) (k, o.at) = cc in
      (ap (λ (x : M × ℕ). x.0) v, ap (λ (x : M × ℕ). x.1) v)

-- What an answer that went on has read: some value, of which the place is made. And what one that did not has not.
pub record Was {A M : Type 0} (make : A → M) (d : Bits → Got A) (p q : BitReader) (v : M) : Type 0 where
  pub it : A
  pub made : v ≡ make it
  pub reads : Said d p q (Ok it)

module _ {A M : Type 0} (make : A → M) (d : Bits → Got A) {p q : BitReader} where
  pub was : {v : M} → Said (λ bs. and_then (d bs) (λ a rest. got (make a) rest)) p q (Ok v) → Was make d p q v
  unfolding found Moved
  was {v} (said same r) = go (d (from p.bytes.now p.at)) refl
    where
      go : (g : Got A) → d (from p.bytes.now p.at) ≡ g → Was make d p q v
      go (got a rest) e =
          let w : ◌≡◌ {A = Got M} (got (make a) rest) (got v (from p.bytes.now q.at)) = rw e at r.finds in
          record { it = a; made = sym (got-value w); reads = said same (record { finds = e ∙ ap (λ (bs : Bits). got a bs) (got-rest w); moves = r.moves }) }
      go (stop y) e = let w : ◌≡◌ {A = Got M} (stop y) (got v (from p.bytes.now q.at)) = rw e at r.finds in absurd (stop-got w)

  was_not : {y : Refusal} → Said (λ bs. and_then (d bs) (λ a rest. got (make a) rest)) p q (Err y) → Said d p q (Err y)
  unfolding found Moved
  was_not {y} (said same r) = go (d (from p.bytes.now p.at)) refl
    where
      go : (g : Got A) → d (from p.bytes.now p.at) ≡ g → Said d p q (Err y)
      go (got a rest) e = let w : ◌≡◌ {A = Got M} (got (make a) rest) (stop y) = rw e at r.finds in absurd (stop-got (sym w))
      go (stop z) e = let w : ◌≡◌ {A = Got M} (stop z) (stop y) = rw e at r.finds in let u : z ≡ y = cc in said same (record { finds = e ∙ ap stop u; moves = nil })

module _ {A M : Type 0} {l : Layout M A} {d : Bits → Got A} {p q : BitReader} {m n : M} where
  pub filled : {u : Nil} → Fills l d p q (Ok u) m n → Was (λ a. l.put a m) d p q n
  filled (fills r) = was (λ a. l.put a m) d r

  pub stopped : {y : Refusal} → Fills l d p q (Err y) m n → Said d p q (Err y)
  stopped (fills r) = was_not (λ a. l.put a m) d r

  -- what a `?` was passed: where it went on, and at its exit
  fills_went : {g : Result Nil Refusal} {x : _} {u : Nil} → Fills l d p q g m n → g ≡ result_from_control_flow x → x ≡ Continue u → Fills l d p q (Ok u) m n
  fills_went s e h = subst (λ (r : _). Fills l d p q r m n) (e ∙ ap result_from_control_flow h) s

  fills_not : {g : Result Nil Refusal} {x : _} {y : _} → Fills l d p q g m n → g ≡ result_from_control_flow x → x ≡ Break y → Fills l d p q (Err y.0) m n
  fills_not s e h = subst (λ (r : _). Fills l d p q r m n) (e ∙ ap result_from_control_flow h) s

-- What is left to show as a function goes: of the table t, from p on, with m in the place. (A data type, so that a proof search takes it whole.)
pub data Laid {A M : Type 0} (l : Layout M A) (t : Codec A) (p q : BitReader) (g : Result Nil Refusal) (m z : M) : Type 0 where
  laid : Completes (λ a. l.put a m) t p q (beside g z) → Laid l t p q g m z

pub begin : {A M : Type 0} {l : Layout M A} (t : Codec A) {p q : BitReader} {g : Result Nil Refusal} {m z : M} → Laid l t p q g m z → Fills l t.dec p q g m z
begin t (laid (completes r)) = fills r

-- a struct, alone and before other parts; parts that are grouped
module _ {A B M : Type 0} (out : B → A) (back : A → B) (l : Layout M A) (t : Codec A) {p q : BitReader} {g : Result Nil Refusal} {m z : M} (e : (a : A) → out (back a) ≡ a) where
  pub struct : Laid l t p q g m z → Laid (of out back l) (via out back t) p q g m z
  unfolding of
  struct (laid c) = laid (reading.struct out back t (remade (λ a. ap (λ (x : A). l.put x m) (e a)) c))

  pub struct_on : {C : Type 0} (j : Layout M C) (k : B → Codec C) → Laid (l ▸ j) (t ▷ λ a. k (back a)) p q g m z → Laid (of out back l ▸ j) (via out back t ▷ k) p q g m z
  unfolding of ◌▸◌
  struct_on j k (laid c) = laid (reading.struct_on out back t k (remade (λ b. ap (λ (x : A). j.put b.1 (l.put x m)) (e b.0)) c))

module _ {A B C M : Type 0} (l : Layout M A) (o : Layout M B) (j : Layout M C) (t : Codec A) (u : A → Codec B) (k : A × B → Codec C) {p q : BitReader} {g : Result Nil Refusal} {m z : M} where
  pub group_on : Laid (l ▸ o ▸ j) (t ▷ λ a. u a ▷ λ b. k (a, b)) p q g m z → Laid ((l ▸ o) ▸ j) ((t ▷ u) ▷ k) p q g m z
  unfolding ◌▸◌
  group_on (laid c) = laid (reading.group_on t u k c)

-- a check that what is read always meets
pub then_checked : {A M : Type 0} {l : Layout M A} (test : A → Bool) (y : Refusal) (t : Codec A) {p q : BitReader} {g : Result Nil Refusal} {m z : M} → Laid l t p q g m z → Laid l (checked test y t) p q g m z
then_checked test y t (laid c) = laid (reading.then_checked test y t c)

beside_not : {M : Type 0} (r : Result Nil Refusal) {y : Refusal} (m : M) → IsErrAnd r (λ z. z ≡ y) → beside r m ≡ Err y
beside_not r m i = ap (λ (g : _). beside g m) (exit i)

laid_not : {A M : Type 0} {l : Layout M A} (t : Codec A) {p q : BitReader} {r : Result Nil Refusal} {y : Refusal} {m z : M} → IsErrAnd r (λ z. z ≡ y) → Completes (λ a. l.put a m) t p q (Err y) → Laid l t p q r m z
laid_not t {r = r} {z = z} i c = laid (rw (beside_not r z i) c)

-- a value that is read and put into a place of its own, and what comes behind it; its refusal at the exit of a `?`
module _ {A B N : Type 0} (o : N) (i : ℕ) (w : Way N A) (j : Layout (List N) B) (t : Codec A) (k : A → Codec B) {p q s : BitReader} {g : Result Nil Refusal} {m z : List N} where
  pub put_on : {a : A} → Said t.dec p q (Ok a) → Laid j (k a) q s g (set m i (w.to a)) z → Laid (at o i w ▸ j) (t ▷ k) p s g m z
  unfolding at ◌▸◌
  put_on r (laid c) = laid (on t k r c)

  pub then_put : {d : Bits → Got A} {h : Result A Refusal} {x : _} {a : A}
      → Said d p q h → By t d → h ≡ result_from_control_flow x → x ≡ Continue a → Laid j (k a) q s g (set m i (w.to a)) z → Laid (at o i w ▸ j) (t ▷ k) p s g m z
  then_put r b e f c = put_on (read_by t (went r e f) b) c

module _ {A B M : Type 0} {l : Layout M (A × B)} (t : Codec A) (k : A → Codec B) {p q : BitReader} {r : Result Nil Refusal} {m z : M} where
  pub put_halt : {y : Refusal} → Said t.dec p q (Err y) → IsErrAnd r (λ z. z ≡ y) → Laid l (t ▷ k) p q r m z
  put_halt h i = laid_not (t ▷ k) i (halt t k h refl)

  pub then_put_halt : {d : Bits → Got A} {h : Result A Refusal} {x : _} {y : _}
      → Said d p q h → By t d → h ≡ result_from_control_flow x → x ≡ Break y → IsErrAnd r (λ z. z ≡ y.0) → Laid l (t ▷ k) p q r m z
  then_put_halt h b e f i = put_halt (read_by t (went_not h e f) b) i

-- the last one
module _ {A N : Type 0} (o : N) (i : ℕ) (w : Way N A) (t : Codec A) {p q : BitReader} {m z : List N} where
  pub put_last : {a : A} → Said t.dec p q (Ok a) → z ≡ set m i (w.to a) → Laid (at o i w) t p q (Ok nil) m z
  unfolding at
  put_last r e = laid (last t r e)

  pub then_put_last : {d : Bits → Got A} {h : Result A Refusal} {x : _} {a : A}
      → Said d p q h → By t d → h ≡ result_from_control_flow x → x ≡ Continue a → z ≡ set m i (w.to a) → Laid (at o i w) t p q (Ok nil) m z
  then_put_last r b e f c = put_last (read_by t (went r e f) b) c

module _ {A M : Type 0} {l : Layout M A} (t : Codec A) {p q : BitReader} {r : Result Nil Refusal} {m z : M} where
  pub put_no : {y : Refusal} → Said t.dec p q (Err y) → IsErrAnd r (λ z. z ≡ y) → Laid l t p q r m z
  put_no h i = laid_not t i (last_no t h refl)

  pub then_put_no : {d : Bits → Got A} {h : Result A Refusal} {x : _} {y : _}
      → Said d p q h → By t d → h ≡ result_from_control_flow x → x ≡ Break y → IsErrAnd r (λ z. z ≡ y.0) → Laid l t p q r m z
  then_put_no h b e f i = put_no (read_by t (went_not h e f) b) i

-- a function that fills a part of the place: the rest does not go by what it read
module _ {A B M : Type 0} (l : Layout M A) (j : Layout M B) (t : Codec A) (k : A → Codec B) {p q s : BitReader} {g : Result Nil Refusal} {m n z : M} where
  pub onward : {u : Nil} → Fills l t.dec p q (Ok u) m n → ((a : A) → Laid j (k a) q s g n z) → Laid (l ▸ j) (t ▷ k) p s g m z
  unfolding ◌▸◌
  onward i c = go (filled i)
    where
      put_in : (a : A) → n ≡ l.put a m → Said t.dec p q (Ok a) → Laid j (k a) q s g n z → Laid (l ▸ j) (t ▷ k) p s g m z
      put_in a h r (laid b) = laid (on t k r (rw h at b))

      go : Was (λ a. l.put a m) t.dec p q n → Laid (l ▸ j) (t ▷ k) p s g m z
      go w = put_in w.it w.made w.reads (c w.it)

  pub then_onward : {h : Result Nil Refusal} {x : _} {u : Nil} → Fills l t.dec p q h m n → h ≡ result_from_control_flow x → x ≡ Continue u
      → ((a : A) → Laid j (k a) q s g n z) → Laid (l ▸ j) (t ▷ k) p s g m z
  then_onward i e f c = onward (fills_went i e f) c

module _ {A B M : Type 0} (l : Layout M A) (j : Layout M B) (t : Codec A) (k : Codec B) {p q s : BitReader} {g : Result Nil Refusal} {m n z : M} where
  pub onward_same : {u : Nil} → Fills l t.dec p q (Ok u) m n → Laid j k q s g n z → Laid (l ▸ j) (t ▷ λ _. k) p s g m z
  onward_same i c = onward l j t (λ _. k) i (λ _. c)

module _ {A B M N : Type 0} {j : Layout N A} (t : Codec A) (k : A → Codec B) {l : Layout M (A × B)} {p q : BitReader} {r : Result Nil Refusal} {v w : N} {m z : M} where
  pub halted : {y : Refusal} → Fills j t.dec p q (Err y) w v → IsErrAnd r (λ z. z ≡ y) → Laid l (t ▷ k) p q r m z
  halted i e = put_halt t k (stopped i) e

  pub then_halted : {h : Result Nil Refusal} {x : _} {y : _} → Fills j t.dec p q h w v → h ≡ result_from_control_flow x → x ≡ Break y → IsErrAnd r (λ z. z ≡ y.0) → Laid l (t ▷ k) p q r m z
  then_halted i e f c = halted (fills_not i e f) c

-- the last step, whose answer is returned as it is, or by a `?`
pub final : {A M : Type 0} {l : Layout M A} (t : Codec A) {p q : BitReader} {g : Result Nil Refusal} {m n z : M} → Fills l t.dec p q g m n → z ≡ n → Laid l t p q g m z
final t (fills r) e = rw e (laid (completes r))

module _ {A M N : Type 0} {j : Layout N A} (t : Codec A) {l : Layout M A} {p q : BitReader} {r : Result Nil Refusal} {v w : N} {m z : M} where
  pub halted_last : {y : Refusal} → Fills j t.dec p q (Err y) w v → IsErrAnd r (λ z. z ≡ y) → Laid l t p q r m z
  halted_last i e = put_no t (stopped i) e

-- a branch
module _ {A M : Type 0} {l : Layout M A} (b : Bool) (t u : Codec A) {p q : BitReader} {g : Result Nil Refusal} {m z : M} where
  pub yes : b ≡ true → Laid l t p q g m z → Laid l (choose b t u) p q g m z
  yes h (laid c) = laid (reading.yes b t u h c)

  pub no : b ≡ false → Laid l u p q g m z → Laid l (choose b t u) p q g m z
  no h (laid c) = laid (reading.no b t u h c)

  pub yes_not : not b ≡ false → Laid l t p q g m z → Laid l (choose b t u) p q g m z
  yes_not h c = yes (not-false b h) c

  pub no_not : not b ≡ true → Laid l u p q g m z → Laid l (choose b t u) p q g m z
  no_not h c = no (not-true b h) c

  pub select_yes : b ≡ true → Laid l t p q g m z → Laid l (select b t u) p q g m z
  unfolding select
  select_yes h (laid (completes (said e r))) = laid (completes (said e (record { finds = rw h r.finds; moves = r.moves })))

  pub select_no : b ≡ false → Laid l u p q g m z → Laid l (select b t u) p q g m z
  unfolding select
  select_no h (laid (completes (said e r))) = laid (completes (said e (record { finds = rw h r.finds; moves = r.moves })))

module _ {A M : Type 0} {l : Layout M A} (a b : ℕ) (t u : Codec A) {p q : BitReader} {g : Result Nil Refusal} {m z : M} where
  pub yes_lt : a < b → Laid l t p q g m z → Laid l (choose (ltb a b) t u) p q g m z
  yes_lt h c = yes (ltb a b) t u (lt-ltb a b h) c

  pub no_lt : b ≤ a → Laid l u p q g m z → Laid l (choose (ltb a b) t u) p q g m z
  no_lt h c = no (ltb a b) t u (le-ltb a b h) c

  pub yes_eq : a ≡ b → Laid l t p q g m z → Laid l (choose (eqb a b) t u) p q g m z
  yes_eq h c = yes (eqb a b) t u (eq-eqb a b h) c

  pub no_eq : (a ≡ b → ⊥) → Laid l u p q g m z → Laid l (choose (eqb a b) t u) p q g m z
  no_eq h c = no (eqb a b) t u (ne_eqb a b h) c

-- all of it stored
pub settled : {A M : Type 0} {l : Layout M A} (t : Codec A) (x : A) → Fixed t x → {p : BitReader} {m z : M} → z ≡ l.put x m → Laid l t p p (Ok nil) m z
settled t x f e = laid (last t (fixed_reads t f) e)

module _ {A N : Type 0} (t : Codec A) (x : A) (h : Fixed t x) (o : N) (i : ℕ) (w : Way N A) {p : BitReader} {m z : List N} where
  settled_at : z ≡ set m i (w.to x) → Laid (at o i w) t p p (Ok nil) m z
  unfolding at
  settled_at e = settled t x h e

  settled_on : {B : Type 0} (j : Layout (List N) B) (k : A → Codec B) {q : BitReader} {g : Result Nil Refusal} → Laid j (k x) p q g (set m i (w.to x)) z → Laid (at o i w ▸ j) (t ▷ k) p q g m z
  unfolding at ◌▸◌
  settled_on j k (laid c) = laid (on t k (fixed_reads t h) c)

module _ {A N : Type 0} (x : A) (o : N) (i : ℕ) (w : Way N A) {p : BitReader} {m z : List N} where
  pub nothing : z ≡ set m i (w.to x) → Laid (at o i w) (absent x) p p (Ok nil) m z
  nothing = settled_at (absent x) x (by_absent x) o i w

  pub nothing_on : {B : Type 0} (j : Layout (List N) B) (k : A → Codec B) {q : BitReader} {g : Result Nil Refusal} → Laid j (k x) p q g (set m i (w.to x)) z → Laid (at o i w ▸ j) (absent x ▷ k) p q g m z
  nothing_on = settled_on (absent x) x (by_absent x) o i w

module _ {N : Type 0} (e c x : ℕ) (o : N) (i : ℕ) (w : Way N ℕ) {p : BitReader} {m z : List N} where
  pub known : z ≡ set m i (w.to x) → Laid (at o i w) (inferred e c x) p p (Ok nil) m z
  known = settled_at (inferred e c x) x (by_inferred e c x) o i w

  pub known_on : {B : Type 0} (j : Layout (List N) B) (k : ℕ → Codec B) {q : BitReader} {g : Result Nil Refusal} → Laid j (k x) p q g (set m i (w.to x)) z → Laid (at o i w ▸ j) (inferred e c x ▷ k) p q g m z
  known_on = settled_on (inferred e c x) x (by_inferred e c x) o i w

module _ {N : Type 0} (e c : ℕ) (x : Bool) (o : N) (i : ℕ) (w : Way N Bool) {p : BitReader} {m z : List N} where
  pub known_flag : z ≡ set m i (w.to x) → Laid (at o i w) (inferred_flag e c x) p p (Ok nil) m z
  known_flag = settled_at (inferred_flag e c x) x (by_inferred_flag e c x) o i w

  pub known_flag_on : {B : Type 0} (j : Layout (List N) B) (k : Bool → Codec B) {q : BitReader} {g : Result Nil Refusal} → Laid j (k x) p q g (set m i (w.to x)) z → Laid (at o i w ▸ j) (inferred_flag e c x ▷ k) p q g m z
  known_flag_on = settled_on (inferred_flag e c x) x (by_inferred_flag e c x) o i w

-- two values at once
pub nothing_pair : {A B N : Type 0} (o c : N) (i j : ℕ) (w : Way N A) (v : Way N B) (b : A × B) {p : BitReader} {m z : List N}
    → z ≡ set (set m i (w.to b.0)) j (v.to b.1) → Laid (at o i w ▸ at c j v) (absent b) p p (Ok nil) m z
unfolding at ◌▸◌
nothing_pair o c i j w v b e = settled (absent b) b (by_absent b) e

-- What a function that fills goes by: `#[tactic(auto, using(fill::proofs::Filling::fillings), unfolding(..))]`; and for a goal that this leaves,
-- `search filled_steps depth 14 fits 4000` at a return, and `search filled_exits depth 14 fits 4000` at the exit of a `?`.
pub ruleset choices = (yes, no, yes_not, no_not, yes_lt, no_lt, yes_eq, no_eq, select_yes, select_no)

pub ruleset fixings = (nothing, nothing_on, known, known_on, known_flag, known_flag_on, nothing_pair)

pub ruleset fillings = (begin, struct, then_checked, put_on, put_halt, put_last, put_no, onward_same, halted, halted_last, final, f_of, choices, fixings)

pub ruleset filled_steps = (begin, struct, then_checked, then_put, then_put_last, then_onward, final, by_dec, by_f, choices, fixings)

pub ruleset filled_exits = (begin, struct, then_checked, then_put, then_put_halt, then_put_no, then_onward, then_halted, by_dec, by_f, choices, fixings)
