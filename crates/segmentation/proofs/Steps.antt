-- How the functions of 5.9.14 meet their tables.
use mathlib.Core.Path.{◌≡◌, refl, ap, ◌∙◌}
use mathlib.Core.List.{List}
use mathlib.Core.Logic.{⊎_elim}
use mathlib.Core.Bool.{Bool, true, false}
use Prim.Native.Nat.{ℕ, ◌+◌, ◌*◌, ◌%◌, ◌^◌, ◌<◌, ◌≤◌}
use native.Mathlib.Omega.{arith}
use lib.ListN.{get_or}
use lib.IntN.{ℤ, pos, neg_ℤ, nat_abs, ◌-ℤ◌}
use lib.Signed.{mag, ◌≤ℤ◌}
use mir.Syntax.{w16, w32}
use mir.Val.{SFits, to_z, of_z}
use borrow.Author.Tests.{lt-ltb, le-ltb}
use Rattle.bits.specs.Bits.{to_bits}
use Rattle.bits.specs.Walk.{mark, field, wrote, run}
use Rattle.bits.specs.Codec.{◌▷◌, flag, absent, choose}
use Rattle.bits.specs.Codes.{su_out}
use Rattle.bits.specs.Elements.{feature_data}
use Rattle.bits.specs.declared.answer.Refusal.{Refusal}
use Rattle.writer.specs.Walked.{Walked}
use Rattle.writer.specs.declared.BitWriter.{BitWriter}
use Rattle.writer.proofs.Walking.{Answer as Step}
use Rattle.bits.proofs.Leaves.{field-run}
use Rattle.std.specs.Int.{int_max, int_min}
use Rattle.std.proofs.lemmas.Nat.{one_shl}
use Rattle.std.proofs.lemmas.Int.{ints}
use Rattle.parts.specs.Codes.{clip, trimmed, natural, natural_out, zip}
use Rattle.segmentation.specs.Packed.{value_bits, value_code}
use Rattle.segmentation.specs.Segmentation.{feature_bits, feature_max, signed_value, unsigned_value, feature_value, feature}
use Rattle.segmentation.proofs.Clipping.{clip-signed, clip-unsigned, plain}
use Rattle.parts.proofs.Signs.{word, su-run}
use Rattle.parts.proofs.Pairs.{zip-at}
use Rattle.parts.proofs.Packing.{flag-field}
use Rattle.parts.proofs.Flags.{clear, set}
use Rattle.bits.proofs.Storing.{below_or}

pub max-plain : (j : ℕ) → pos 0 ≤ℤ feature_max j
max-plain j = grind (arith, ints)

out_plain : (n : ℕ) (z : ℤ) → z ≡ pos (nat_abs z) → natural_out n z ≡ nat_abs z
out_plain n z h = grind (arith, ints)

-- what the code widens to 32 bits
wide : (r y : ℤ) → mag r < 32768 → y ≡ to_z w16 (of_z w16 r) → to_z w32 (of_z w32 y) ≡ r
wide r y m e = omega (arith, ints)

pub feature-at : (flags : List Bool) (values : List ℤ) (i : ℕ) {c d : BitWriter} {s : Step} → mag (get_or values i (pos 0)) < 32768
    → Walked ((feature i).enc (get_or flags i false, to_z w16 (of_z w16 (get_or values i (pos 0))))) c d s → Walked ((feature i).enc (get_or (zip false (pos 0) flags values) i (false, pos 0))) c d s
feature-at flags values i h g = rw (zip-at false (pos 0) flags values i) (rw (word w16 (get_or values i (pos 0)) h) at g)

-- the value of a feature as one number
module _ (j : ℕ) (limit v r : ℤ) (l : limit ≡ feature_max j) (p : pos 0 ≤ℤ limit) (f : SFits w16 limit) (g : SFits w16 v) where
  pub code_signed : (k bits : ℕ) (y : ℤ) → bits ≡ value_bits j → j < 5 → mag r < 32768 → r ≡ int_max (to_z w16 (of_z w16 (pos 0 -ℤ to_z w16 (of_z w16 limit)))) (int_min (to_z w16 (of_z w16 v)) (to_z w16 (of_z w16 limit)))
      → y ≡ to_z w16 (of_z w16 r) → k ≡ su_out bits (to_z w32 (of_z w32 y)) → k ≡ value_code j v
  unfolding value_code
  code_signed k bits y h b m e o q = q ∙ rw (h, wide r y m o, clip-signed w16 limit p f v r g e, lt-ltb j 5 b, l)

  pub code_unsigned : 5 ≤ j → mag r < 32768 → r ≡ int_max (pos 0) (int_min (to_z w16 (of_z w16 v)) (to_z w16 (of_z w16 limit))) → nat_abs (to_z w16 (of_z w16 r)) ≡ value_code j v
  unfolding value_code
  code_unsigned b m e = rw (word w16 r m, clip-unsigned w16 limit p f v r g e, le-ltb j 5 b, l)

pub code_small : (j : ℕ) (v : ℤ) → value_code j v < 2 ^ value_bits j
unfolding value_code clip
code_small j v = grind (arith, ints)

value-run : (j i : ℕ) (v : ℤ) → run ((feature_value j i).enc v) ≡ wrote (to_bits (value_bits j) (value_code j v))
unfolding value_code feature_value choose signed_value unsigned_value trimmed natural run
value-run j i v = ⊎_elim signed unsigned (below_or j 5)
  where
    signed : j < 5 → run ((feature_value j i).enc v) ≡ wrote (to_bits (value_bits j) (value_code j v))
    signed h = rw (lt-ltb j 5 h) (su-run (feature_bits j + 1) _ feature_data i (clip (neg_ℤ (feature_max j)) (feature_max j) v) refl (rw (lt-ltb j 5 h) at (code_small j v)))

    unsigned : 5 ≤ j → run ((feature_value j i).enc v) ≡ wrote (to_bits (value_bits j) (value_code j v))
    unsigned h = rw (le-ltb j 5 h, out_plain (feature_bits j) (clip (pos 0) (feature_max j) v) (plain (feature_max j) v (max-plain j))) (field-run (feature_bits j) _ _ (rw (le-ltb j 5 h) at (code_small j v)))

-- the whole of a feature that is enabled, and of one that is not
module _ (on : Bool) (v : ℤ) (i : ℕ) {c d : BitWriter} {s : Step} where
  pub enabled : (bits code : ℕ) {r : Refusal} → on ≡ true → mag v < 32768 → bits ≡ value_bits (i % 8) → bits ≤ 9 → code ≡ value_code (i % 8) (to_z w16 (of_z w16 v))
      → Walked (field (bits + 1) (1 * 2 ^ bits % 2 ^ 32 + code) r) c d s → Walked ((feature i).enc (on, v)) c d s
  unfolding feature ◌▷◌ choose flag absent
  enabled bits code t m b l q g =
      let e : 1 * 2 ^ bits % 2 ^ 32 ≡ 2 ^ bits = one_shl bits 32 (omega arith) in
      let k : code ≡ value_code (i % 8) v = q ∙ ap (value_code (i % 8)) (word w16 v m) in
      set t (flag-field bits (2 ^ bits) code refl (rw (b, k) (value-run (i % 8) i v)) (rw (b, k) (code_small (i % 8) v)) (rw e at g))

  pub disabled : on ≡ false → Walked (mark false) c d s → Walked ((feature i).enc (on, v)) c d s
  unfolding feature ◌▷◌ choose flag absent
  disabled h g = clear h g
