-- One OBU of the type t around any payload (5.3.1): how it is written, how it is read, and its spellings as document 01 has them.
use Rattle.std.specs.Prelude.{◌≡◌, [], ◌∷◌, ◌++◌, true, false, cond, ℕ, ◌*◌, length, replicate}
use Rattle.bits.specs.Bits.{Bits}
use Rattle.bits.specs.Walk.{◌⊕◌}
use Rattle.bits.specs.Codec.{Codec, Got, got, and_then}
use Rattle.bits.specs.Codes.{leb128}
use Rattle.obu.specs.declared.header.ObuHeader.{ObuHeader}
use Rattle.obu.specs.Header.{obu_header}
use Rattle.obu.specs.Framing.{framed, read_size, read_trailing}

module _ (t : ℕ) {A : Type 0} (p : Codec A) where
  -- Reading (document 01): the header's refusals come first, then the size's, the payload's, and the tail's.
  unfoldable pub read_obu : Bits → Got (ObuHeader × A)
  read_obu bs =
      and_then ((obu_header t).dec bs) (λ h rest.
      and_then (read_size h.has_size_field rest) (λ _ rest.
      and_then (p.dec rest) (λ v rest.
      and_then (read_trailing rest) (λ _ end. got (h, v) end))))

  -- A spelling: the header with reserved bits 0; if flagged, its size in any leb128 of one to eight bytes; the body; a one bit;
  -- zeros to a byte end, then any number of zero bytes, all counted in the size.
  pub record Spelling (h : ObuHeader) (v : A) (bs : Bits) : Type 0 where
    pub head : Bits
    pub size : Bits
    pub body : Bits
    pub zeros : ℕ
    pub bytes : ℕ
    pub is_head : (obu_header t).spells h head
    pub is_size : cond h.has_size_field ((leb128 8).spells bytes size) (size ≡ [])
    pub is_body : p.spells v body
    pub is_bytes : length (body ++ true ∷ replicate zeros false) ≡ bytes * 8
    pub is_whole : head ++ (size ++ (body ++ true ∷ replicate zeros false)) ≡ bs

  -- the table of an OBU: its record is a header and a payload
  unfoldable pub obu : Codec (ObuHeader × A)
  obu = record {
    enc = λ (h, v). (obu_header t).enc h ⊕ framed h.has_size_field (p.enc v);
    dec = read_obu;
    coded = λ (h, v). ((obu_header t).coded h, p.coded v);
    spells = λ (h, v) bs. Spelling h v bs;
  }
