-- Demand 3, for an OBU around any payload whose table keeps the laws, and that is written in at most 65,525 bytes: what stands around it has at most 11.
use mathlib.Core.Path.{◌≡◌, refl, sym, ◌∙◌, ap}
use mathlib.Core.List.{List, [], ◌++◌}
use mathlib.Core.Bool.{Bool, true, false, cond}
use Prim.Native.Nat.{ℕ, ◌*◌, ◌≤◌}
use native.Mathlib.Omega.{arith}
use lib.ListN.{length, drop}
use lib.Dec.{ltb}
use borrow.Author.Tests.{ltb-false, le-ltb}
use Rattle.bits.specs.Bits.{Bits, bits_of}
use Rattle.bits.specs.Walk.{Walk, Out, wrote, run}
use Rattle.bits.specs.Codec.{Codec, Got, got, stop}
use Rattle.bits.specs.Lawful.{strict, Lawful, Least, same, shorter}
use Rattle.bits.specs.declared.answer.Refusal.TheVariants.{Long}
use Rattle.bits.proofs.Laws.{stop-got, got-value}
use Rattle.bits.proofs.Places.{length-bits_of}
use Rattle.bits.proofs.Counting.{Few}
use Rattle.std.specs.Prelude.{Ok}
use Rattle.obu.specs.declared.header.ObuHeader.{ObuHeader}
use Rattle.obu.specs.Obu.{Spelling, obu}
use Rattle.bits.specs.Written.{whole_bytes}
use Rattle.obu.specs.Writer.{written}
use Rattle.obu.specs.Demand3.{AreBytes, read, Consistent, Spells, Gives, Shortest, Demand3}
use Rattle.obu.proofs.Bytes.{pack, pack_length, pack_bytes, bits_of_pack, bits_of-same, put-bytes}
use Rattle.obu.proofs.Spellings.{accepted, spelled, own, shortest, aligned}
use Rattle.obu.proofs.Writing.{fits, wrote_all}
use Rattle.obu.proofs.Framing.{obu-few}

-- a slice that is read is not too long
short_enough : {A : Type 0} (xs : List ℕ) (g : Got A) (a : A) (rest : Bits) → cond (ltb 65536 (length xs)) (stop Long) g ≡ got a rest → (length xs ≤ 65536) × (g ≡ got a rest)
short_enough xs g a rest h = go (ltb 65536 (length xs)) refl h
  where
    go : (b : Bool) → ltb 65536 (length xs) ≡ b → cond b (stop Long) g ≡ got a rest → (length xs ≤ 65536) × (g ≡ got a rest)
    go true e h = absurd (stop-got h)
    go false e h = (ltb-false 65536 (length xs) e, h)

-- a walk that comes to whole bytes writes them
pub gives : (w : Walk) (es buffer : List ℕ) → run w ≡ wrote (bits_of es) → AreBytes es → AreBytes buffer → length es ≤ length buffer → length buffer ≤ 65536
    → written w buffer ≡ record { answer = Ok (length es); bytes = es ++ drop (length es) buffer }
gives w es buffer e E B h l =
    let n : whole_bytes (length (bits_of es)) ≡ length es = rw (length-bits_of es) (omega arith) in
    fits w buffer l (bits_of es) e (rw n h) ∙ rw (n, put-bytes buffer es E B h l)

-- in bits, and so in bytes
saves : (es bs : Bits) (m n : ℕ) → length es ≡ m * 8 → length bs ≡ n * 8 → Least es bs → (m ≤ n) × (n ≡ m → es ≡ bs)
saves es bs m n l k (same e) = (omega (arith, ap length e), λ _. e)
saves es bs m n l k (shorter h) = (omega arith, λ e. absurd (omega arith))

module _ (t : ℕ) {A : Type 0} (p : Codec A) (P : Lawful strict p) (F : (v : A) → Few 524200 (p.enc v)) where
  is_accepted : (r : ObuHeader × A) (xs : List ℕ) → Spells (obu t p) r xs → read (obu t p) xs ≡ got ((obu t p).coded r) []
  unfolding read obu
  is_accepted r xs s = let l = s.few in rw (le-ltb 65536 (length xs) l) (accepted t p P r.0 r.1 (bits_of xs) s.spelling)

  is_consistent : (r : ObuHeader × A) (xs : List ℕ) → Spells (obu t p) r xs → Consistent (obu t p) r
  unfolding obu
  is_consistent r xs s = ap (λ (o : Out). o.end) (shortest t p P r.0 r.1 (bits_of xs) s.spelling).1

  is_written : (r : ObuHeader × A) → Consistent (obu t p) r → (es : List ℕ) × Shortest (obu t p) r es × Gives (obu t p) r es
  unfolding obu
  is_written r c =
      let e = wrote_all (run ((obu t p).enc r)) c in
      let w = own t p P r.0 r.1 _ e in
      let m = aligned t p P r.0 r.1 _ w in
      make _ m.0 m.1 e w
    where
      make : (bs : Bits) (m : ℕ) → length bs ≡ m * 8 → run ((obu t p).enc r) ≡ wrote bs → Spelling t p r.0 r.1 bs → (es : List ℕ) × Shortest (obu t p) r es × Gives (obu t p) r es
      make bs m l e w =
          let b = bits_of_pack m bs l in
          let k = pack_length m bs in
          let B = pack_bytes m bs l in
          let other : (ys : List ℕ) → Spells (obu t p) r ys → (m ≤ length ys) × (length ys ≡ m → bs ≡ bits_of ys) = λ ys q.
          let u = shortest t p P r.0 r.1 (bits_of ys) q.spelling in
          let v : bs ≡ u.0 = ap (λ (o : Out). o.bits) (sym e ∙ u.1) in
          rw v (saves u.0 (bits_of ys) m (length ys) (rw v at l) (length-bits_of ys) u.2) in
          let f : m ≤ 65536 = omega (arith, (obu-few t p r.0 r.1 (F r.1)).most bs e) in (
            pack m bs,
            record {
              spells = record { bytes = B; few = rw k f; spelling = rw b w };
              least = λ ys q. rw k (other ys q).0;
              only = λ ys q n. bits_of-same ys (pack m bs) q.bytes B (sym ((other ys q).1 (n ∙ k)) ∙ sym b);
            },
            λ buffer X h n. gives ((obu t p).enc r) (pack m bs) buffer (rw b e) B X h n,
          )

  is_spelled : (xs : List ℕ) → AreBytes xs → (r : ObuHeader × A) (rest : Bits) → read (obu t p) xs ≡ got r rest → Consistent (obu t p) r × Spells (obu t p) r xs × ((obu t p).coded r ≡ r)
  unfolding read obu
  is_spelled xs X r rest d =
      let w = short_enough xs ((obu t p).dec (bits_of xs)) r rest d in
      let s : Spells (obu t p) r xs = record { bytes = X; few = w.0; spelling = spelled t p P (bits_of xs) (length xs) r.0 r.1 rest (length-bits_of xs) w.1 } in
      (is_consistent r xs s, s, got-value (sym (is_accepted r xs s) ∙ d))

  pub demand3 : Demand3 (obu t p)
  demand3 = record {
    accepted_is_spelled = is_spelled;
    spelled_is_accepted = is_accepted;
    fields_are_fixed = λ a b xs s q. got-value (sym (is_accepted a xs s) ∙ is_accepted b xs q);
    spelled_is_consistent = is_consistent;
    consistent_is_written = is_written;
  }
