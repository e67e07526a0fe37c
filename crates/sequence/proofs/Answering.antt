-- A field that is neither coded nor checked never affects the answer of the public writer, nor what it leaves in the buffer.
use mathlib.Core.Path.{◌≡◌, sym, ap, ◌∙◌}
use mathlib.Core.List.{List}
use Prim.Native.Nat.{ℕ}
use Rattle.bits.specs.Codec.{via}
use Rattle.bits.specs.Written.{Answer, Written}
use Rattle.obu.specs.Writer.{Writes, writes}
use Rattle.obu.proofs.Blind.{same-written}
use Rattle.sequence.specs.declared.record.SequenceHeaderObu.{SequenceHeaderObu}
use Rattle.sequence.specs.Fields.{record_out}
use Rattle.sequence.specs.Sequence.{sequence_header_obu, sequence_header}
use Rattle.sequence.proofs.Laws.{sequence_header_obu_law}

pub same_answer : (a b : SequenceHeaderObu) → sequence_header.coded a ≡ sequence_header.coded b → {xs ys zs : List ℕ} {r s : Answer}
    → Writes (sequence_header.enc a) xs r ys → Writes (sequence_header.enc b) xs s zs → (r ≡ s) × (ys ≡ zs)
unfolding sequence_header via
same_answer a b same {xs} (writes p q) (writes u v) =
    let w = same-written 1 sequence_header_obu sequence_header_obu_law (record_out a) (record_out b) xs (ap record_out same) in
    (p ∙ ap (λ (x : Written). x.answer) w ∙ sym u, q ∙ ap (λ (x : Written). x.bytes) w ∙ sym v)
