-- What the readers of the parts store beside fields and flags.
use mathlib.Core.Path.{◌≡◌, refl, ap, ◌∙◌}
use mathlib.Core.List.{List}
use mathlib.Core.Bool.{Bool, true, false}
use Prim.Native.Nat.{ℕ}
use lib.IntN.{ℤ, pos}
use lib.ListN.{set}
use mir.Syntax.{w32}
use mir.Val.{SFits, to_z, of_z, bool_byte}
use mir.Facts.{to_z-of_z}
use Rattle.std.specs.Prelude.{Result, Ok}
use Rattle.bits.specs.Codec.{Codec, choose, select, inferred, inferred_flag, ◌▷◌, Nil, nil}
use Rattle.bits.specs.declared.answer.Refusal.{Refusal}
use Rattle.reader.specs.declared.BitReader.{BitReader}
use Rattle.reader.specs.Reading.{Said}
use Rattle.reader.proofs.Reading.{Fixed, fixed, fixed_reads, by_inferred, by_inferred_flag}
use Rattle.fill.specs.Fills.{Layout, same, natural, signed_bit, at, ◌▸◌}
use Rattle.fill.proofs.Filling.{Laid, put_on, put_last}
use Rattle.fill.proofs.Signs.{put_bit}
use Rattle.parts.specs.Codes.{inferred_signed}

-- a branch whose answer is returned as it is
module _ {A : Type 0} (b : Bool) (t u : Codec A) {p q : BitReader} {g : Result A Refusal} where
  pub said_yes : b ≡ true → Said t.dec p q g → Said (choose b t u).dec p q g
  unfolding choose
  said_yes h s = rw h s

  pub said_no : b ≡ false → Said u.dec p q g → Said (choose b t u).dec p q g
  unfolding choose
  said_no h s = rw h s

  pub picked_yes : b ≡ true → Said t.dec p q g → Said (select b t u).dec p q g
  unfolding select
  picked_yes h s = rw h s

  pub picked_no : b ≡ false → Said u.dec p q g → Said (select b t u).dec p q g
  unfolding select
  picked_no h s = rw h s

-- a number of any table, where it fits
module _ (i : ℕ) (t : Codec ℕ) {p q : BitReader} {v : ℕ} (s : Said t.dec p q (Ok v)) (h : SFits w32 (pos v)) where
  pub put_fit : {B : Type 0} (j : Layout (List ℤ) B) (k : ℕ → Codec B) {n : BitReader} {g : Result Nil Refusal} {m z : List ℤ}
      → Laid j (k v) q n g (set m i (to_z w32 (of_z w32 (pos v)))) z → Laid (at (pos 0) i natural ▸ j) (t ▷ k) p n g m z
  put_fit j k c = put_on (pos 0) i natural j t k s (rw (to_z-of_z h) at c)

  pub fit_last : {m z : List ℤ} → z ≡ set m i (to_z w32 (of_z w32 (pos v))) → Laid (at (pos 0) i natural) t p q (Ok nil) m z
  fit_last e = put_last (pos 0) i natural t s (e ∙ ap (set _ i) (to_z-of_z h))

-- the same with a sign
module _ (i : ℕ) (t : Codec ℤ) {p q : BitReader} {v : ℤ} (s : Said t.dec p q (Ok v)) (h : SFits w32 v) where
  pub put_same : {B : Type 0} (j : Layout (List ℤ) B) (k : ℤ → Codec B) {n : BitReader} {g : Result Nil Refusal} {m z : List ℤ}
      → Laid j (k v) q n g (set m i (to_z w32 (of_z w32 v))) z → Laid (at (pos 0) i same ▸ j) (t ▷ k) p n g m z
  put_same j k c = put_on (pos 0) i same j t k s (rw (to_z-of_z h) at c)

  pub same_last : {m z : List ℤ} → z ≡ set m i (to_z w32 (of_z w32 v)) → Laid (at (pos 0) i same) t p q (Ok nil) m z
  same_last e = put_last (pos 0) i same t s (e ∙ ap (set _ i) (to_z-of_z h))

-- numbers and flags that are inferred
pub said_known : (e c x : ℕ) {p : BitReader} → Said (inferred e c x).dec p p (Ok x)
said_known e c x = fixed_reads _ (by_inferred e c x)

pub said_known_flag : (e c : ℕ) (x : Bool) {p : BitReader} → Said (inferred_flag e c x).dec p p (Ok x)
said_known_flag e c x = fixed_reads _ (by_inferred_flag e c x)

pub known_bit_on : {B : Type 0} (e c : ℕ) (x : Bool) (i : ℕ) (j : Layout (List ℤ) B) (k : Bool → Codec B) {p s : BitReader} {g : Result Nil Refusal} {m z : List ℤ}
    → Laid j (k x) p s g (set m i (to_z w32 (bool_byte x))) z → Laid (at (pos 0) i signed_bit ▸ j) (inferred_flag e c x ▷ k) p s g m z
known_bit_on e c x i j k h = put_bit (pos 0) i (inferred_flag e c x) j k (fixed_reads _ (by_inferred_flag e c x)) h

pub by_signed : (e : ℕ) (x : ℤ) → Fixed (inferred_signed e x) x
unfolding inferred_signed
by_signed e x = fixed (λ bs. refl)

-- what a value function goes by that returns a callee's answer as it is, or a value that is inferred
pub ruleset sayings = (said_yes, said_no, picked_yes, picked_no, said_known, said_known_flag)
