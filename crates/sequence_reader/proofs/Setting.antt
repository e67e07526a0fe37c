-- What the reader sets, of the whole record: `reader_sets` says it of what the public call answers.
use mathlib.Core.Path.{◌≡◌, refl, subst}
use mathlib.Core.List.{List}
use Prim.Native.Nat.{ℕ}
use lib.ListN.{length}
use lib.Dec.{ltb}
use Rattle.std.specs.Prelude.{Result, Ok}
use Rattle.bits.specs.Bits.{Bits, bits_of}
use Rattle.bits.specs.declared.answer.Refusal.{Refusal}
use Rattle.bits.specs.Codec.{Codec, got, Nil, nil}
use Rattle.bits.proofs.Laws.{stop-got, then_inv, got-value}
use Rattle.obu.specs.declared.header.ObuHeader.{ObuHeader}
use Rattle.obu.specs.Header.{obu_header}
use Rattle.obu.specs.Framing.{read_size, read_trailing}
use Rattle.obu.specs.Obu.{read_obu, obu}
use Rattle.obu.specs.Demand3.{read}
use Rattle.sequence.specs.declared.record.SequenceHeaderObu.{SequenceHeaderObu}
use Rattle.sequence.specs.Fields.{sequence_out}
use Rattle.sequence.specs.Sequence.{color_and_grain, tools_and_color, body, sequence_header_obu, sequence_header}
use Rattle.sequence_reader.specs.Layouts.{numbers_of}
use Rattle.sequence_reader.specs.Reader.{Answers}
use Rattle.sequence_reader.proofs.Demand.{accepted}
use Rattle.sequence_reader.proofs.Sets.{Sets}
use Rattle.sequence_reader.proofs.Found.{Found, first, second, struct, by_test}
use Rattle.sequence_reader.proofs.PointSetting.{header_sets, general_sets, frame_ids_sets}
use Rattle.sequence_reader.proofs.ToolSetting.{tools_sets, color_sets}

-- 5.5.1, whole
sequence_sets : (h : SequenceHeaderObu) → Found (obu_header 1) h.obu_header → Found sequence_header_obu (sequence_out h) → Sets h
unfolding sequence_header_obu body tools_and_color color_and_grain
sequence_sets h o s =
    let b = second _ _ (second _ _ (second _ _ s)) in
    let g = general_sets h (first _ _ b) in
    let i = second _ _ (second _ _ b) in
    let t = second _ _ (second _ _ i) in
    record {
      header = header_sets o;
      timing = g.0;
      points = g.1;
      frame_ids = frame_ids_sets h (first _ _ i);
      tools = tools_sets h (first _ _ t);
      color = color_sets h.seq_profile (first _ _ (second _ _ (second _ _ t)));
    }

-- an OBU
obu_parts : {A : Type 0} (t : ℕ) (c : Codec A) {p : ObuHeader × A} → Found (obu t c) p → Found (obu_header t) p.0 × Found c p.1
unfolding obu read_obu
obu_parts {A} t c {p} s =
    let a = then_inv ((obu_header t).dec s.bits) _ p s.rest s.finds in
    let b = then_inv (read_size a.0.has_size_field a.1) _ p s.rest a.3 in
    let v = then_inv (c.dec b.1) _ p s.rest b.3 in
    let e = then_inv (read_trailing v.1) _ p s.rest v.3 in
    subst (λ (q : ObuHeader × A). Found (obu_header t) q.0 × Found c q.1) (got-value e.3) (record { bits = s.bits; rest = a.1; finds = a.2 }, record { bits = b.1; rest = v.1; finds = v.2 })

found : (xs : List ℕ) (h : SequenceHeaderObu) (rest : Bits) → read sequence_header xs ≡ got h rest → Found sequence_header h
unfolding read
found xs h rest e = by_test (ltb 65536 (length xs))
    (λ t. absurd (stop-got (rw t at e)))
    (λ t. record { bits = bits_of xs; rest = rest; finds = rw t at e })

-- In the record that is read, each field that is neither coded nor checked is 0, and each inferred one has the inferred value.
pub record_sets : (xs : List ℕ) (h : SequenceHeaderObu) (rest : Bits) → read sequence_header xs ≡ got h rest → Sets h
unfolding sequence_header
record_sets xs h rest e = let p = obu_parts _ _ (struct _ _ _ (λ _. refl) (found xs h rest e)) in sequence_sets h p.0 p.1

-- .. and so in the record whose numbers the public reader leaves.
pub reader_sets : (xs ns : List ℕ) {o : Result Nil Refusal} {ms : List ℕ} → Answers xs ns o ms → o ≡ Ok nil → (h : SequenceHeaderObu) × (ms ≡ numbers_of h) × Sets h
reader_sets xs ns a e = let g = accepted xs ns a e in (g.it, g.numbers, record_sets xs g.it g.rest g.reads)
