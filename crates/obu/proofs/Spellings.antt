-- The spellings of an OBU, in bits: each is read, what is read is one, and the walk writes the one shortest; over any payload that keeps the laws.
use mathlib.Core.Path.{◌≡◌, sym, ◌∙◌, ap, subst}
use mathlib.Core.List.{[], ◌∷◌, ◌++◌}
use mathlib.Core.Bool.{Bool, true, false, cond}
use Prim.Native.Nat.{ℕ, ◌+◌, ◌-◌, ◌*◌}
use native.Mathlib.Omega.{arith}
use lib.ListN.{length, length-append, replicate}
use Rattle.bits.specs.Bits.{Bits}
use Rattle.bits.specs.Walk.{wrote, run}
use Rattle.bits.specs.Codec.{Codec, Got, got, nil}
use Rattle.bits.specs.Codes.{leb128}
use Rattle.bits.specs.Lawful.{strict, Lawful, Least, same, shorter}
use Rattle.bits.proofs.Laws.{got-value, then_inv, joined, join_inv, least-join}
use Rattle.obu.specs.Header.{obu_header}
use Rattle.obu.specs.Framing.{read_size, bytes_for, padding, read_trailing, framed}
use Rattle.obu.specs.Obu.{read_obu, Spelling, obu}
use Rattle.obu.specs.declared.header.ObuHeader.{ObuHeader}
use Rattle.obu.proofs.Headers.{header_law, header-length, coded_sized, cut}
use Rattle.obu.proofs.Frames.{tail_is, tail_inv, size_reads, size_inv, size-length, tail, size_out, framed-run, framed_inv, size_own, frame_length, least_le, Fit, exact, room, fit, size-least, size_same, save}

module _ (t : ℕ) {A : Type 0} (p : Codec A) (P : Lawful strict p) where
  -- every spelling is accepted, with the same coded fields
  pub accepted : (h : ObuHeader) (v : A) (bs : Bits) → Spelling t p h v bs → read_obu t p bs ≡ got ((obu_header t).coded h, p.coded v) []
  unfolding read_obu
  accepted h v bs s = go s.head s.size s.body s.zeros s.bytes s.is_head s.is_size s.is_body s.is_bytes s.is_whole
    where
      go : (head size body : Bits) (pad bytes : ℕ) → (obu_header t).spells h head → cond h.has_size_field ((leb128 8).spells bytes size) (size ≡ [])
          → p.spells v body → length (body ++ true ∷ replicate pad false) ≡ bytes * 8
          → head ++ (size ++ (body ++ true ∷ replicate pad false)) ≡ bs → read_obu t p bs ≡ got ((obu_header t).coded h, p.coded v) []
      go head size body pad bytes H Z B L W =
          rw (
            ← W,
            (header_law {g = strict} t).complete h head (size ++ (body ++ true ∷ replicate pad false)) H,
            coded_sized t h,
            size_reads h.has_size_field bytes size (body ++ true ∷ replicate pad false) Z L,
            P.complete v body (true ∷ replicate pad false) B,
            tail_is pad,
          )

  -- what is accepted is a spelling of what is read
  pub spelled : (bs : Bits) (m : ℕ) (h : ObuHeader) (v : A) (rest : Bits) → length bs ≡ m * 8 → read_obu t p bs ≡ got (h, v) rest → Spelling t p h v bs
  unfolding read_obu
  spelled bs m h v rest l d =
      let u = then_inv ((obu_header t).dec bs) _ (h, v) rest d in
      let w = then_inv (read_size u.0.has_size_field u.1) _ (h, v) rest u.3 in
      let y = then_inv (p.dec w.1) _ (h, v) rest w.3 in
      let z = then_inv (read_trailing y.1) _ (h, v) rest y.3 in
      go u.0 y.0 u.1 w.1 y.1 z.1 z.3 u.2 w.2 y.2 z.2
    where
      count : (b : Bool) (n m j : ℕ) (head size r1 r2 : Bits) → cond b (((leb128 8).spells n size) × (length r2 ≡ n * 8)) (size ≡ []) → length head ≡ j * 8
          → size ++ r2 ≡ r1 → m * 8 ≡ length head + length r1 → (bytes : ℕ) × (cond b ((leb128 8).spells bytes size) (size ≡ [])) × (length r2 ≡ bytes * 8)
      count true n m j head size r1 r2 s l w t = (n, s.0, s.1)
      count false n m j head size r1 r2 s l w t = (m - j, s, omega (arith, ap length s, cut size r2 w))

      make : (h' : ObuHeader) (v' : A) (head size body : Bits) (pad bytes : ℕ) (r1 r2 r3 : Bits) → (obu_header t).spells h' head → p.spells v' body
          → cond h'.has_size_field ((leb128 8).spells bytes size) (size ≡ []) → length r2 ≡ bytes * 8
          → true ∷ replicate pad false ≡ r3 → body ++ r3 ≡ r2 → size ++ r2 ≡ r1 → head ++ r1 ≡ bs → Spelling t p h' v' bs
      make h' v' head size body pad bytes r1 r2 r3 H B Z L k b z x = record {
        head = head;
        size = size;
        body = body;
        zeros = pad;
        bytes = bytes;
        is_head = H;
        is_size = Z;
        is_body = B;
        is_bytes = rw (k, b) L;
        is_whole = rw (k, b, z) x;
      }

      go : (h' : ObuHeader) (v' : A) (r1 r2 r3 r4 : Bits) → ◌≡◌ {A = Got (ObuHeader × A)} (got (h', v') r4) (got (h, v) rest) → (obu_header t).dec bs ≡ got h' r1 → read_size h'.has_size_field r1 ≡ got nil r2
          → p.dec r2 ≡ got v' r3 → read_trailing r3 ≡ got nil r4 → Spelling t p h v bs
      go h' v' r1 r2 r3 r4 e H Z B T =
          let x = (header_law {g = strict} t).sound bs h' r1 H in
          let z = size_inv h'.has_size_field r1 r2 Z in
          let b = P.sound r2 v' r3 B in
          let k = tail_inv r3 T in
          let j = header-length t h' x.0 x.1 in
          let n = count h'.has_size_field z.0 m j.0 x.0 z.1 r1 r2 z.2 j.1 z.3 (sym l ∙ cut x.0 r1 x.2) in
          let g = make h' v' x.0 z.1 b.0 k.0 n.0 r1 r2 r3 x.1 b.1 n.1 n.2 k.1 b.2 z.3 x.2 in
          subst (λ (q : ObuHeader × A). Spelling t p q.0 q.1 bs) (got-value e) g

  -- what is written is a spelling
  pub own : (h : ObuHeader) (v : A) (es : Bits) → run ((obu t p).enc (h, v)) ≡ wrote es → Spelling t p h v es
  unfolding obu run
  own h v es e =
      let j = join_inv (run ((obu_header t).enc h)) (run (framed h.has_size_field (p.enc v))) es e in
      let g = framed_inv h.has_size_field (p.enc v) j.1 j.3 in
      make j.0 j.1 g.0 g.1 j.2 g.2 g.3 g.4 j.4
    where
      make : (head r body size : Bits) → run ((obu_header t).enc h) ≡ wrote head → run (p.enc v) ≡ wrote body → size_out h.has_size_field (bytes_for (length body)) ≡ wrote size
          → size ++ (body ++ tail (length body)) ≡ r → head ++ r ≡ es → Spelling t p h v es
      make head r body size H B Z q w = record {
        head = head;
        size = size;
        body = body;
        zeros = padding (length body);
        bytes = bytes_for (length body);
        is_head = (header_law {g = strict} t).own h head H;
        is_size = size_own h.has_size_field (bytes_for (length body)) size Z;
        is_body = P.own v body B;
        is_bytes = frame_length body;
        is_whole = ap (λ (x : Bits). head ++ x) q ∙ w;
      }

  -- a record with a spelling is written, by its one shortest
  pub shortest : (h : ObuHeader) (v : A) (bs : Bits) → Spelling t p h v bs → (es : Bits) × (run ((obu t p).enc (h, v)) ≡ wrote es) × Least es bs
  unfolding obu run
  shortest h v bs s =
      let x = (header_law {g = strict} t).least tt h s.head s.is_head in
      let z = P.least tt v s.body s.is_body in
      subst (λ (q : Bits). (es : Bits) × (run ((obu t p).enc (h, v)) ≡ wrote es) × Least es q) s.is_whole
      (go x.0 s.head z.0 s.body s.size s.zeros s.bytes x.1 x.2 z.1 s.is_size s.is_bytes (fit z.0 s.body s.zeros s.bytes z.2 s.is_bytes))
    where
      go : (ex x ez z size : Bits) (pad bytes : ℕ) → run ((obu_header t).enc h) ≡ wrote ex → Least ex x → run (p.enc v) ≡ wrote ez
          → cond h.has_size_field ((leb128 8).spells bytes size) (size ≡ []) → length (z ++ true ∷ replicate pad false) ≡ bytes * 8 → Fit ez z pad bytes
          → (es : Bits) × (run ((obu t p).enc (h, v)) ≡ wrote es) × Least es (x ++ (size ++ (z ++ true ∷ replicate pad false)))
      go ex x ez z size pad bytes H X B Z L (exact q n) =
          let y = size_same h.has_size_field bytes size Z in
          let w : size_out h.has_size_field (bytes_for (length ez)) ≡ wrote y.0 = rw n y.1 in
          (ex ++ (y.0 ++ (ez ++ tail (length ez))), joined H (framed-run h.has_size_field (p.enc v) y.0 ez B w), least-join X (least-join y.2 (same q)))
      go ex x ez z size pad bytes H X B Z L (room r) =
          let y = size-least h.has_size_field bytes (bytes_for (length ez)) size (omega arith) Z in (
            ex ++ (y.0 ++ (ez ++ tail (length ez))),
            joined H (framed-run h.has_size_field (p.enc v) y.0 ez B y.1),
            shorter (save ex x y.0 size ez (z ++ true ∷ replicate pad false) bytes (least_le X) y.2 L r),
          )

  -- a spelling is whole bytes
  pub aligned : (h : ObuHeader) (v : A) (bs : Bits) → Spelling t p h v bs → (m : ℕ) × (length bs ≡ m * 8)
  aligned h v bs s =
      let x = header-length t h s.head s.is_head in
      let y = size-length h.has_size_field s.bytes s.size s.is_size in
      (x.0 + (y.0 + s.bytes), add s.head s.size _ x.0 y.0 s.bytes x.1 y.1 s.is_bytes s.is_whole)
    where
      add : (x y z : Bits) (i j k : ℕ) → length x ≡ i * 8 → length y ≡ j * 8 → length z ≡ k * 8 → x ++ (y ++ z) ≡ bs → length bs ≡ (i + (j + k)) * 8
      add x y z i j k a b c e = omega (arith, cut x (y ++ z) e, length-append y z)
