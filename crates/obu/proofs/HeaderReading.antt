-- How reserved bits and the type are read.
use mathlib.Core.Path.{◌≡◌, refl, ◌∙◌}
use mathlib.Core.Bool.{cond}
use Prim.Native.Nat.{ℕ}
use lib.Dec.{eqb}
use borrow.Author.Tests.{eq-eqb, ne_eqb}
use Rattle.std.specs.Prelude.{Result, Ok, Err, IsErrAnd}
use Rattle.bits.specs.Bits.{Bits, from_bits}
use Rattle.bits.specs.Elements.{obu_type}
use Rattle.bits.specs.Codec.{Got, got, stop, and_then, take_bits, f, zeros, Nil, nil}
use Rattle.bits.specs.Answers.{found, Moved}
use Rattle.bits.specs.declared.answer.Refusal.{Refusal}
use Rattle.bits.specs.declared.answer.Refusal.TheVariants.{Inconsistent, Reserved}
use Rattle.reader.specs.declared.BitReader.{BitReader}
use Rattle.reader.specs.Reading.{Said, said}
use Rattle.reader.proofs.Reading.{readings, exit, stops, allowed_yes, allowed_no, allowed-stop}
use Rattle.obu.specs.Header.{expected_type}

-- reserved bits are a number that must be 0
zeros-dec : (n : ℕ) (bs : Bits) → (zeros n).dec bs ≡ and_then ((f n 0 0).dec bs) (λ v rest. cond (eqb v 0) (got nil rest) (stop Reserved))
unfolding zeros f
zeros-dec n bs = go (take_bits n bs)
  where
    go : (g : Got Bits) → and_then g (λ xs rest. cond (eqb (from_bits xs) 0) (got nil rest) (stop Reserved)) ≡ and_then (and_then g (λ xs rest. got (from_bits xs) rest)) (λ v rest. cond (eqb v 0) (got nil rest) (stop Reserved))
    go (got xs rest) = refl
    go (stop r) = refl

module _ (n : ℕ) {p q : BitReader} where
  pub zeros_yes : {v : ℕ} → Said (f n 0 0).dec p q (Ok v) → v ≡ 0 → Said (zeros n).dec p q (Ok nil)
  unfolding found Moved
  zeros_yes {v} (said e r) h = said e (record { finds = zeros-dec n _ ∙ rw (r.finds, eq-eqb v 0 h); moves = r.moves })

  pub zeros_no : {v : ℕ} → Said (f n 0 0).dec p q (Ok v) → (v ≡ 0 → ⊥) → Said (zeros n).dec p q (Err Reserved)
  unfolding found Moved
  zeros_no {v} (said e r) h = said e (record { finds = zeros-dec n _ ∙ rw (r.finds, ne_eqb v 0 h); moves = nil })

  pub zeros-stop : {y : Refusal} {r : Result Nil Refusal} → Said (f n 0 0).dec p q (Err y) → IsErrAnd r (λ z. z ≡ y) → Said (zeros n).dec p q r
  zeros-stop s i = rw (exit i) (stops _ s (λ bs e. zeros-dec n bs ∙ rw e refl))

module _ (t : ℕ) {p q : BitReader} where
  pub type_yes : {v : ℕ} → Said (f 4 0 0).dec p q (Ok v) → v ≡ t → Said (expected_type t).dec p q (Ok v)
  unfolding expected_type f
  type_yes {v} s h = allowed_yes _ _ (f 4 obu_type 0) s (eq-eqb v t h)

  pub type_no : {v : ℕ} → Said (f 4 0 0).dec p q (Ok v) → (v ≡ t → ⊥) → Said (expected_type t).dec p q (Err (Inconsistent obu_type 0))
  unfolding expected_type f
  type_no {v} s h = allowed_no _ _ (f 4 obu_type 0) s (ne_eqb v t h)

  pub type_stop : {y : Refusal} {r : Result ℕ Refusal} → Said (f 4 0 0).dec p q (Err y) → IsErrAnd r (λ z. z ≡ y) → Said (expected_type t).dec p q r
  unfolding expected_type f
  type_stop s i = allowed-stop _ _ (f 4 obu_type 0) s i

pub ruleset header_readings = (readings, zeros_yes, zeros_no, zeros-stop, type_yes, type_no, type_stop)
