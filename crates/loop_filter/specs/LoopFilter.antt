-- 5.9.11: the parameters of the loop filter. Each table is the contract of the writer's function of its name.
use Rattle.std.specs.Prelude.{List, [], ◌∷◌, Bool, true, false, cond, not, ◌&&◌, ◌||◌, ℕ, eqb, get_or, ℤ, pos, negsuc}
use Rattle.bits.specs.Codec.{Codec, f, flag, absent, inferred, choose, merged, via, array, ◌▷◌}
use Rattle.bits.specs.Codes.{su}
use Rattle.bits.specs.Elements.{loop_filter_level, loop_filter_ref_deltas, loop_filter_mode_deltas, loop_filter_sharpness}
use Rattle.parts.specs.Codes.{inferred_signed}
use Rattle.loop_filter.specs.declared.record.LoopFilterParams.{LoopFilterParams}
use Rattle.loop_filter.specs.declared.record.LoopFilterContext.{LoopFilterContext}

abbrev pub Levels : Type 0
Levels = ℕ × (ℕ × (ℕ × ℕ))

-- levels 2 and 3 are coded with three planes, if level 0 or level 1 is not 0
abbrev pub chroma_coded : ℕ → ℕ → ℕ → Bool
chroma_coded planes a b = not (eqb planes 1) && (not (eqb a 0) || not (eqb b 0))

unfoldable pub chroma_levels : Bool → Codec (ℕ × ℕ)
chroma_levels coded = choose coded (f 6 loop_filter_level 2 ▷ λ _. f 6 loop_filter_level 3) (absent (0, 0))

unfoldable pub levels : ℕ → Codec Levels
levels planes =
    f 6 loop_filter_level 0 ▷ λ a.
    f 6 loop_filter_level 1 ▷ λ b.
    chroma_levels (chroma_coded planes a b)

-- A set flag and the delta. A clear flag is read as well: then the old delta stands.
unfoldable pub delta : ℤ → ℕ → ℕ → Codec ℤ
delta old e i = merged (λ z. (true, z)) (λ p. cond p.0 p.1 old) (flag ▷ λ coded. choose coded (su 7 e i) (absent (pos 0)))

-- the deltas of the eight references and of the two modes
abbrev pub Deltas : Type 0
Deltas = List ℤ × (ℤ × ℤ)

unfoldable pub ref_deltas : List ℤ → Codec (List ℤ)
ref_deltas old = array (pos 0) (λ i. delta (get_or old i (pos 0)) loop_filter_ref_deltas i) 8 0 8

unfoldable pub mode_deltas : ℤ × ℤ → Codec (ℤ × ℤ)
mode_deltas old = delta old.0 loop_filter_mode_deltas 0 ▷ λ _. delta old.1 loop_filter_mode_deltas 1

unfoldable pub deltas : Deltas → Codec Deltas
deltas old = ref_deltas old.0 ▷ λ _. mode_deltas old.1

unfoldable pub delta_update : Deltas → Codec (Bool × Deltas)
delta_update old = flag ▷ λ update. choose update (deltas old) (absent old)

abbrev pub Rest : Type 0
Rest = ℕ × (Bool × (Bool × Deltas))

unfoldable pub rest : Deltas → Codec Rest
rest old =
    f 3 loop_filter_sharpness 0 ▷ λ _.
    flag ▷ λ enabled.
    choose enabled (delta_update old) (absent (false, old))

unfoldable pub filter_on : ℕ → Deltas → Codec (Levels × Rest)
filter_on planes old = levels planes ▷ λ _. rest old

-- Under lossless coding or intra block copy nothing is coded: levels 0 and 1 are 0, and the deltas are the standard's defaults.
-- By reference number: 1 for intra, 0 for LAST, LAST2 and LAST3, -1 for GOLDEN, 0 for BWDREF, -1 for ALTREF2 and ALTREF.
-- Difference (docs/DIFFERENCES.md, row 28): the crate has places 4 and 5 exchanged.
abbrev pub default_deltas : List ℤ
default_deltas = pos 1 ∷ pos 0 ∷ pos 0 ∷ pos 0 ∷ negsuc 0 ∷ pos 0 ∷ negsuc 0 ∷ negsuc 0 ∷ []

unfoldable pub default_refs : Codec (List ℤ)
default_refs = array (pos 0) (λ i. inferred_signed loop_filter_ref_deltas (get_or default_deltas i (pos 0))) 8 0 8

unfoldable pub default_modes : Codec (ℤ × ℤ)
default_modes = inferred_signed loop_filter_mode_deltas (pos 0) ▷ λ _. inferred_signed loop_filter_mode_deltas (pos 0)

unfoldable pub no_levels : Codec Levels
no_levels =
    inferred loop_filter_level 0 0 ▷ λ _.
    inferred loop_filter_level 0 0 ▷ λ _.
    absent (0, 0)

unfoldable pub no_rest : Codec Rest
no_rest =
    absent 0 ▷ λ _.
    absent false ▷ λ _.
    absent false ▷ λ _.
    default_refs ▷ λ _.
    default_modes

unfoldable pub filter_off : Codec (Levels × Rest)
filter_off = no_levels ▷ λ _. no_rest

unfoldable pub loop_filter_table : LoopFilterContext → Deltas → Codec (Levels × Rest)
loop_filter_table context old = choose (context.coded_lossless || context.allow_intrabc) filter_off (filter_on context.planes old)

-- the record for its table
abbrev pub levels_out : LoopFilterParams → Levels
levels_out p = (get_or p.loop_filter_level 0 0, (get_or p.loop_filter_level 1 0, (get_or p.loop_filter_level 2 0, get_or p.loop_filter_level 3 0)))

abbrev pub modes_out : LoopFilterParams → ℤ × ℤ
modes_out p = (get_or p.loop_filter_mode_deltas 0 (pos 0), get_or p.loop_filter_mode_deltas 1 (pos 0))

abbrev pub deltas_out : LoopFilterParams → Deltas
deltas_out p = (p.loop_filter_ref_deltas, modes_out p)

abbrev pub update_out : LoopFilterParams → Bool × Deltas
update_out p = (p.loop_filter_delta_update, deltas_out p)

abbrev pub rest_out : LoopFilterParams → Rest
rest_out p = (p.loop_filter_sharpness, (p.loop_filter_delta_enabled, update_out p))

abbrev pub loop_filter_out : LoopFilterParams → Levels × Rest
loop_filter_out p = (levels_out p, rest_out p)

abbrev pub loop_filter_in : Levels × Rest → LoopFilterParams
loop_filter_in = λ ((a, (b, (u, v))), (sharpness, (enabled, (update, (refs, (mode-0, mode-1)))))). record {
  loop_filter_level = a ∷ b ∷ u ∷ v ∷ [];
  loop_filter_sharpness = sharpness;
  loop_filter_delta_enabled = enabled;
  loop_filter_delta_update = update;
  loop_filter_ref_deltas = refs;
  loop_filter_mode_deltas = mode-0 ∷ mode-1 ∷ [];
}

-- The old deltas are for a reader: what is written does not go by them.
unfoldable pub loop_filter_params : LoopFilterContext → Deltas → Codec LoopFilterParams
loop_filter_params context old = via loop_filter_out loop_filter_in (loop_filter_table context old)

abbrev pub no_old : Deltas
no_old = ([], (pos 0, pos 0))
