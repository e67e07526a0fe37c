-- How the deltas and the matrices are read, of whatever element, and what is stored where they are not coded.
use mathlib.Core.Path.{refl, subst}
use mathlib.Core.List.{List}
use mathlib.Core.Bool.{Bool, true, false}
use Prim.Native.Nat.{ℕ}
use native.Mathlib.Omega.{arith}
use lib.IntN.{ℤ, pos}
use lib.ListN.{set}
use mir.Syntax.{w32}
use mir.Val.{SFits, to_z, of_z}
use mir.Facts.{to_z-of_z}
use Rattle.std.specs.Prelude.{Result, Ok}
use Rattle.bits.specs.Codec.{f, absent, inferred, choose, merged, ◌▷◌, Nil, nil}
use Rattle.bits.specs.Codes.{su}
use Rattle.bits.specs.Answers.{found, Moved}
use Rattle.bits.specs.declared.answer.Refusal.{Refusal}
use Rattle.reader.specs.declared.BitReader.{BitReader}
use Rattle.reader.specs.Reading.{Said, said, completes}
use Rattle.reader.proofs.Reading.{reads, By, by, read_by, fixed_reads}
use Rattle.fill.specs.Fills.{at, ◌▸◌, Fills}
use Rattle.fill.proofs.Filling.{Laid, laid, final}
use Rattle.fill.proofs.Signs.{natural_fits, signed_fillings}
use Rattle.parts.specs.Codes.{inferred_signed}
use Rattle.parts_reader.specs.Reading.{delta}
use Rattle.parts_reader.proofs.Storing.{by_signed, put_fit, fit_last, put_same, same_last}
use Rattle.parts_reader.proofs.Deltas.{delta_fits}
use Rattle.bits.specs.Elements.{delta_q_v_dc, delta_q_v_ac, qm_v}
use Rattle.bits.proofs.Laws.{got-value}
use Rattle.quantization.specs.Quantization.{read_delta_q, v_inferred, v_deltas, no_uv_deltas, one_plane, v_matrix}
use Rattle.quantization_reader.specs.Layout.{v_place, uv_place, chroma_place, matrices_place}

-- a delta is read whatever its element; without its flag it is 0
by_delta : (e : ℕ) → By (read_delta_q e) (delta (pos 0)).dec
unfolding delta read_delta_q merged ◌▷◌ choose su
by_delta e = by (λ bs. refl)

pub delta_of : (e : ℕ) {p q : BitReader} {r : Result ℤ Refusal} → Said (delta (pos 0)).dec p q r → Said (read_delta_q e).dec p q r
delta_of e s = read_by (read_delta_q e) s (by_delta e)

pub delta_small : {p q : BitReader} {z : ℤ} → Said (delta (pos 0)).dec p q (Ok z) → SFits w32 z
delta_small s = delta_fits (pos 0) (record { sfits = omega arith }) s

-- the deltas of V, where they are those of U
pub same-deltas : (dc ac : ℤ) → SFits w32 dc → SFits w32 ac → {p : BitReader} {m : List ℤ} → Laid v_place (v_inferred dc ac) p p (Ok nil) m (set (set m 7 (to_z w32 (of_z w32 dc))) 8 (to_z w32 (of_z w32 ac)))
unfolding v_inferred v_place
same-deltas dc ac d a =
    let u = inferred_signed delta_q_v_dc dc in
    let v = inferred_signed delta_q_v_ac ac in
    put_same 7 u (fixed_reads u (by_signed _ dc)) d _ (λ _. v) (same_last 8 v (fixed_reads v (by_signed _ ac)) a refl)

-- the deltas of V, by those of U that a function read
pub final_v : (diff : Bool) (dc ac : ℤ) → SFits w32 dc → SFits w32 ac → {p q : BitReader} {g : Result Nil Refusal} {m z : List ℤ}
    → Fills v_place (v_deltas diff (to_z w32 (of_z w32 dc)) (to_z w32 (of_z w32 ac))).dec p q g m z → Laid v_place (v_deltas diff dc ac) p q g m z
final_v diff dc ac d a f = final (v_deltas diff dc ac) (rw (to_z-of_z d, to_z-of_z a) at f) refl

-- qm_v, where it is qm_u
pub v_matrix_fits : (separate : Bool) (u : ℕ) → SFits w32 (pos u) → {p q : BitReader} {v : ℕ} → Said (v_matrix separate u).dec p q (Ok v) → SFits w32 (pos v)
unfolding v_matrix choose inferred found
v_matrix_fits true u h s = natural_fits 4 qm_v 0 s refl
v_matrix_fits false u h s = subst (λ (x : ℕ). SFits w32 (pos x)) (got-value (reads s).finds) h

-- one plane, and no matrices: nothing is coded
module _ {p : BitReader} {m : List ℤ} where
  pub no_chroma : Laid chroma_place one_plane p p (Ok nil) m (set (set (set (set (set m 4 (pos 0)) 5 (pos 0)) 6 (pos 0)) 7 (pos 0)) 8 (pos 0))
  unfolding chroma_place uv_place v_place one_plane no_uv_deltas v_inferred ◌▸◌ at ◌▷◌ absent inferred_signed found Moved
  no_chroma = laid (completes (said refl (record { finds = refl; moves = refl })))

  pub no_matrices : Laid matrices_place (absent (0, (0, 0))) p p (Ok nil) m (set (set (set m 10 (pos 0)) 11 (pos 0)) 12 (pos 0))
  unfolding matrices_place ◌▸◌ at absent found Moved
  no_matrices = laid (completes (said refl (record { finds = refl; moves = refl })))

pub ruleset delta_fillings = (v_matrix_fits, signed_fillings, put_fit, fit_last, put_same, same_last, delta_of, delta_small, same-deltas, no_chroma, no_matrices)
