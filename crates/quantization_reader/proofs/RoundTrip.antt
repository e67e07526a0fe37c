-- Over and back. What is written reads back as it was coded. What is read is written again: by the same bits, unless a delta's flag was set before a zero,
-- which is written without it, in seven bits less.
use mathlib.Core.Path.{◌≡◌, refl, sym, ap}
use mathlib.Core.List.{[], ◌∷◌}
use mathlib.Core.Bool.{Bool, true, false}
use Prim.Native.Nat.{ℕ}
use native.Mathlib.Omega.{arith}
use lib.IntN.{ℤ, pos}
use lib.ListN.{length}
use Rattle.bits.specs.Bits.{Bits, to_bits}
use Rattle.bits.specs.Walk.{run, join, wrote}
use Rattle.bits.specs.Codec.{flag, choose, absent, ◌▷◌}
use Rattle.bits.specs.Codes.{su}
use Rattle.bits.proofs.Laws.{wrote-bits}
use Rattle.parts.specs.Codes.{same}
use Rattle.parts.proofs.Signs.{same_is}
use Rattle.parts_reader.specs.Again.{Shorter, Rewrites}
use Rattle.parts_reader.specs.Refusals.{OnlyEnds}
use Rattle.parts_reader.specs.OverAndBack.{OverAndBack}
use Rattle.parts_reader.proofs.Refusing.{endings}
use Rattle.parts_reader.proofs.Again.{shorter_pieces, agains, via-again}
use Rattle.parts_reader.proofs.RoundTrip.{over_and_back}
use Rattle.parts_reader.proofs.DeltasAgain.{flag_and_number, delta-again}
use Rattle.quantization.proofs.Laws.{quantization_law}
use Rattle.quantization.specs.declared.record.QuantizationContext.{QuantizationContext}
use Rattle.quantization.specs.Quantization.{delta_out, read_delta_q, diff_uv, v_coded, v_inferred, v_deltas, uv_deltas, no_uv_deltas, three_planes, one_plane, chroma, v_matrix, matrices, qmatrix, quantization_table, quantization_out, quantization_in, quantization_params}

-- no refusal but that of bits that run out
delta-ends : (e : ℕ) → OnlyEnds (read_delta_q e)
unfolding read_delta_q
delta-ends e = search endings depth 12

chroma-ends : (planes : ℕ) (separate : Bool) → OnlyEnds (chroma planes separate)
unfolding chroma one_plane three_planes no_uv_deltas uv_deltas v_deltas v_coded v_inferred diff_uv
chroma-ends planes separate = search (endings, delta-ends) depth 12

qmatrix-ends : (separate : Bool) → OnlyEnds (qmatrix separate)
unfolding qmatrix matrices v_matrix
qmatrix-ends separate = search endings depth 12

quantization-ends : (context : QuantizationContext) → OnlyEnds (quantization_params context)
unfolding quantization_params quantization_table
quantization-ends context = search (endings, delta-ends, chroma-ends, qmatrix-ends) depth 12

-- a delta is written without its flag where it is 0
number-again : (e : ℕ) (z : ℤ) (bs : Bits) → run ((su 7 e 0).enc z) ≡ wrote bs → (es : Bits) × (run ((flag_and_number e 0).enc (delta_out z)) ≡ wrote es) × Shorter es (true ∷ bs)
unfolding run join ◌▷◌ flag choose absent su to_bits
number-again e z bs h = go (same z (pos 0)) refl
  where
    go : (b : Bool) → same z (pos 0) ≡ b → (es : Bits) × (run ((flag_and_number e 0).enc (delta_out z)) ≡ wrote es) × Shorter es (true ∷ bs)
    go true k =
        let l : length bs ≡ 7 = sym (ap length (wrote-bits (rw (same_is z (pos 0) k) at h))) in
        (false ∷ [], rw k refl, (omega arith, λ e. absurd (omega arith)))
    go false k = (true ∷ bs, rw (k, h) refl, shorter_pieces.same (true ∷ bs))

delta_rewrites : (e : ℕ) → Rewrites Shorter (read_delta_q e)
unfolding read_delta_q run join ◌▷◌ flag choose absent
delta_rewrites e = delta-again shorter_pieces delta_out (pos 0) e 0 (false ∷ [], refl, shorter_pieces.same (false ∷ [])) (number-again e)

chroma_rewrites : (planes : ℕ) (separate : Bool) → Rewrites Shorter (chroma planes separate)
unfolding chroma one_plane three_planes no_uv_deltas uv_deltas v_deltas v_coded v_inferred diff_uv
chroma_rewrites planes separate = search (agains, shorter_pieces, delta_rewrites) depth 12

qmatrix_rewrites : (separate : Bool) → Rewrites Shorter (qmatrix separate)
unfolding qmatrix matrices v_matrix
qmatrix_rewrites separate = search (agains, shorter_pieces) depth 12

table_rewrites : (context : QuantizationContext) → Rewrites Shorter (quantization_table context)
unfolding quantization_table
table_rewrites context = search (agains, shorter_pieces, delta_rewrites, chroma_rewrites, qmatrix_rewrites) depth 12

quantization_rewrites : (context : QuantizationContext) → Rewrites Shorter (quantization_params context)
unfolding quantization_params
quantization_rewrites context = via-again shorter_pieces quantization_out quantization_in (quantization_table context) (λ a. refl) (table_rewrites context)

pub quantization-over_and_back : (context : QuantizationContext) → OverAndBack Shorter (quantization_params context)
quantization-over_and_back context = over_and_back _ (quantization_law context) (quantization_rewrites context) (quantization-ends context)
