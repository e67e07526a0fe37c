-- A field that is neither coded nor checked never affects the answer, nor the bytes.
use mathlib.Core.Path.{◌≡◌, sym, ◌∙◌, ap}
use mathlib.Core.List.{List}
use Prim.Native.Nat.{ℕ}
use Rattle.bits.specs.Walk.{Walk, run}
use Rattle.bits.specs.Codec.{Codec}
use Rattle.bits.specs.Lawful.{Grade, strict, Lawful}
use Rattle.obu.specs.declared.header.ObuHeader.{ObuHeader}
use Rattle.obu.specs.Header.{obu_header}
use Rattle.obu.specs.Framing.{framed}
use Rattle.obu.specs.Obu.{obu}
use Rattle.obu.specs.Delimiter.{temporal_delimiter}
use Rattle.obu.specs.Writer.{written}
use Rattle.obu.proofs.Headers.{header_law, coded_sized}

written_as : (v w : Walk) (xs : List ℕ) → run v ≡ run w → written v xs ≡ written w xs
unfolding written
written_as v w xs e = rw e

module _ (t : ℕ) {A : Type 0} (p : Codec A) {g : Grade} (P : Lawful g p) where
  obu_blind : (r : ObuHeader × A) → run ((obu t p).enc ((obu t p).coded r)) ≡ run ((obu t p).enc r)
  unfolding obu framed run
  obu_blind r = rw ((header_law {g = strict} t).blind r.0, coded_sized t r.0, P.blind r.1)

  pub same-written : (r s : ObuHeader × A) (xs : List ℕ) → (obu t p).coded r ≡ (obu t p).coded s → written ((obu t p).enc r) xs ≡ written ((obu t p).enc s) xs
  same-written r s xs e = written_as _ _ xs (sym (obu_blind r) ∙ ap (λ (q : ObuHeader × A). run ((obu t p).enc q)) e ∙ obu_blind s)

delimiter_blind : (h : ObuHeader) → run (temporal_delimiter ((obu_header 2).coded h)) ≡ run (temporal_delimiter h)
unfolding temporal_delimiter run
delimiter_blind h = rw ((header_law {g = strict} 2).blind h, coded_sized 2 h)

pub same_delimiter : (h k : ObuHeader) (xs : List ℕ) → (obu_header 2).coded h ≡ (obu_header 2).coded k → written (temporal_delimiter h) xs ≡ written (temporal_delimiter k) xs
same_delimiter h k xs e = written_as _ _ xs (sym (delimiter_blind h) ∙ ap (λ (q : ObuHeader). run (temporal_delimiter q)) e ∙ delimiter_blind k)
