-- Demand 3, for the sequence header's record.
use mathlib.Core.Path.{◌≡◌, refl, sym, ap, ◌∙◌}
use mathlib.Core.List.{List}
use Prim.Native.Nat.{ℕ}
use native.Mathlib.Omega.{arith}
use lib.ListN.{length}
use lib.Dec.{ltb}
use Rattle.bits.specs.Bits.{Bits, bits_of}
use Rattle.bits.specs.Codec.{Codec, Got, got, stop, and_then, via}
use Rattle.bits.specs.declared.answer.Refusal.TheVariants.{Long}
use Rattle.bits.proofs.Laws.{cond-ap, then_inv, got-value}
use Rattle.obu.specs.Obu.{obu}
use Rattle.obu.specs.Demand3.{AreBytes, read, Consistent, Spells, Gives, Shortest, Demand3}
use Rattle.obu.proofs.Demands.{demand3}
use Rattle.sequence.specs.Fields.{record_out, record_in}
use Rattle.sequence.specs.Sequence.{sequence_header_obu, sequence_header}
use Rattle.sequence.proofs.Laws.{sequence_header_obu_law}
use Rattle.sequence.proofs.Counts.{few}

-- a table for a struct is read as the tuple's table is
pub struct-read : {A B : Type 0} (to : B → A) (from : A → B) (c : Codec A) (xs : List ℕ) → read (via to from c) xs ≡ and_then (read c xs) (λ a rest. got (from a) rest)
unfolding read via
struct-read {A} to from c xs = cond-ap (λ (g : Got A). and_then g (λ a rest. got (from a) rest)) (ltb 65536 (length xs)) (stop Long) (c.dec (bits_of xs))

-- and has demand 3 as that has
module _ {A B : Type 0} (to : B → A) (from : A → B) (c : Codec A) (back : (a : A) → to (from a) ≡ a) (D : Demand3 c) where
  tuple : (b : B) (xs : List ℕ) → Spells (via to from c) b xs → Spells c (to b) xs
  unfolding via
  tuple b xs s = record { bytes = s.bytes; few = s.few; spelling = s.spelling }

  struct : (b : B) (xs : List ℕ) → Spells c (to b) xs → Spells (via to from c) b xs
  unfolding via
  struct b xs s = record { bytes = s.bytes; few = s.few; spelling = s.spelling }

  spelled : (xs : List ℕ) → AreBytes xs → (b : B) (rest : Bits) → read (via to from c) xs ≡ got b rest → Consistent (via to from c) b × Spells (via to from c) b xs × ((via to from c).coded b ≡ b)
  unfolding via
  spelled xs X b rest h =
      let u = then_inv (read c xs) (λ a rest. got (from a) rest) b rest (sym (struct-read to from c xs) ∙ h) in
      let is : u.0 ≡ to b = sym (back u.0) ∙ ap to (got-value u.3) in
      let g = D.accepted_is_spelled xs X (to b) u.1 (u.2 ∙ ap (λ (a : A). got a u.1) is) in
      (g.0, struct b xs g.1, ap from g.2 ∙ ap from (sym is) ∙ got-value u.3)

  is_written : (b : B) → Consistent (via to from c) b → (es : List ℕ) × Shortest (via to from c) b es × Gives (via to from c) b es
  unfolding via
  is_written b k =
      let g = D.consistent_is_written (to b) k in
      (g.0, record { spells = struct b g.0 g.1.spells; least = λ ys q. g.1.least ys (tuple b ys q); only = λ ys q. g.1.only ys (tuple b ys q) }, g.2)

  demand3_struct : Demand3 (via to from c)
  unfolding via
  demand3_struct = record {
    accepted_is_spelled = spelled;
    spelled_is_accepted = λ b xs s. struct-read to from c xs ∙ rw (D.spelled_is_accepted (to b) xs (tuple b xs s));
    fields_are_fixed = λ a b xs s q. ap from (D.fields_are_fixed (to a) (to b) xs (tuple a xs s) (tuple b xs q));
    spelled_is_consistent = λ b xs s. D.spelled_is_consistent (to b) xs (tuple b xs s);
    consistent_is_written = is_written;
  }

pub sequence_demand3 : Demand3 sequence_header
unfolding sequence_header
sequence_demand3 =
    demand3_struct record_out record_in (obu 1 sequence_header_obu) (λ a. refl)
    (demand3 1 sequence_header_obu sequence_header_obu_law (λ v. record { most = λ bs e. omega (arith, (few v).most bs e) }))
