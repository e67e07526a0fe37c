-- How the operating points are read, one behind the other.
use mathlib.Core.Path.{◌≡◌, refl}
use mathlib.Core.List.{List}
use mathlib.Core.Bool.{Bool, true, false}
use Prim.Native.Nat.{ℕ, ◌+◌, ◌*◌, ◌<◌, ◌≤◌}
use native.Mathlib.Omega.{arith}
use lib.ListN.{set}
use lib.Dec.{leb}
use borrow.Author.Tests.{le-leb}
use Rattle.std.specs.Prelude.{Result, Ok, Err, IsErrAnd}
use Rattle.std.specs.Result.{result_from_control_flow}
use Rattle.std.specs.declared.ops.ControlFlow.TheVariants.{Continue, Break}
use Rattle.bits.specs.Answers.{found, Moved}
use Rattle.bits.specs.Codec.{Codec, f, absent, inferred, inferred_flag, allowed, choose, select, via, ◌▷◌, Nil, nil}
use Rattle.bits.specs.declared.answer.Refusal.{Refusal}
use Rattle.reader.specs.declared.BitReader.{BitReader}
use Rattle.reader.specs.Reading.{Said, said, completes}
use Rattle.reader.proofs.Reading.{on, went, went_not, allowed_yes, allowed-stop, by_absent, f_fits}
use Rattle.fill.specs.Fills.{Layout, same, at, of, ◌▸◌, ◌▹◌, Fills}
use Rattle.fill.proofs.Filling.{Laid, laid, begin, final, settled, put_halt}
use Rattle.fill.proofs.Looping.{Rest, rest_all, rest_on, rest_halt, rest_end}
use Rattle.sequence.specs.declared.record.OperatingPoint.{OperatingPoint}
use Rattle.sequence.specs.Optional.{f_if, flag_if}
use Rattle.sequence.specs.Points.{operating_parameters_info, point_model, point_delay, point_rest, operating_point, operating_points, no_point, no_operating_parameters_info, reduced_delay, reduced_point_rest, reduced_point}
use Rattle.sequence_reader.specs.Layouts as row
use Rattle.sequence_reader.specs.Tails.{any_point, point_list}
use Rattle.sequence_reader.proofs.Steps.{fields, fill_steps, fill_exits}

-- no parameters
pub no_parameters : (i : ℕ) {p : BitReader} {m z : List ℕ} → z ≡ set (set (set m (i + 4) 0) (i + 5) 0) (i + 6) 0 → Laid (row.operating_parameters_info i) (absent no_operating_parameters_info) p p (Ok nil) m z
unfolding of ◌▸◌ at
no_parameters i e = settled _ no_operating_parameters_info (by_absent no_operating_parameters_info) e

-- the reduced header's point: only the level is coded
module _ (i : ℕ) {p q : BitReader} {m z : List ℕ} {v : ℕ} where
  pub reduced_laid : Said (f 5 0 0).dec p q (Ok v) → z ≡ set (set (set (set (set (set (set (set (set m i 0) (i + 1) v) (i + 2) 0) (i + 3) 0) (i + 4) 0) (i + 5) 0) (i + 6) 0) (i + 7) 0) (i + 8) 0
      → Laid (row.operating_point i) reduced_point p q (Ok nil) m z
  unfolding f of ◌▸◌ at reduced_point reduced_point_rest reduced_delay point_model flag_if via ◌▷◌ choose select absent inferred inferred_flag found Moved
  reduced_laid (said e r) h = laid (completes (said e (record { finds = rw (r.finds, h) refl; moves = r.moves })))

-- a point of either header
module _ {M : Type 0} {l : Layout M OperatingPoint} (reduced has_model : Bool) (k : ℕ) (has-delay : Bool) {p q : BitReader} {g : Result Nil Refusal} {m z : M} where
  pub point_yes : reduced ≡ true → Fills l reduced_point.dec p q g m z → Fills l (any_point reduced has_model k has-delay 0).dec p q g m z
  unfolding any_point
  point_yes h i = rw h i

  pub point_no : reduced ≡ false → Fills l (operating_point has_model k has-delay 0).dec p q g m z → Fills l (any_point reduced has_model k has-delay 0).dec p q g m z
  unfolding any_point
  point_no h i = rw h i

  -- reading does not look at the index
  any : (i : ℕ) → Fills l (any_point reduced has_model k has-delay 0).dec p q g m z → Fills l (any_point reduced has_model k has-delay i).dec p q g m z
  unfolding any_point operating_point point_rest point_model operating_parameters_info point_delay f_if flag_if via ◌▷◌ choose select absent f inferred inferred_flag
  any i = go reduced
    where
      go : (b : Bool) → Fills l (any_point b has_model k has-delay 0).dec p q g m z → Fills l (any_point b has_model k has-delay i).dec p q g m z
      go true r = r
      go false r = r

-- the loop over the points
abbrev pub Points : Bool → Bool → ℕ → Bool → ℕ → BitReader → List ℕ → BitReader → List ℕ → ℕ → Type 0
Points reduced has_model k has-delay n old m₀ p m i = Rest no_point (λ i. row.operating_point (20 + 9 * i)) (any_point reduced has_model k has-delay) 32 n old m₀ p m i

module _ (reduced has_model : Bool) (k : ℕ) (has-delay : Bool) {n : ℕ} {old p : BitReader} {m₀ m : List ℕ} {i : ℕ} (r : Points reduced has_model k has-delay n old m₀ p m i) where
  pub points_on : i < n → {u : Nil} {q : BitReader} {o : List ℕ} → Fills (row.operating_point (20 + 9 * i)) (any_point reduced has_model k has-delay 0).dec p q (Ok u) m o → Points reduced has_model k has-delay n old m₀ q o (i + 1)
  points_on h f = rest_on r h (any reduced has_model k has-delay i f)

  pub points_halt : i < n → {y : Refusal} {g : Result Nil Refusal} {q : BitReader} {o z : List ℕ} → Fills (row.operating_point (20 + 9 * i)) (any_point reduced has_model k has-delay 0).dec p q (Err y) m o → IsErrAnd g (λ x. x ≡ y)
      → Fills (row.operating_points 20 n) (point_list reduced has_model k has-delay n).dec old q g m₀ z
  unfolding point_list
  points_halt h f e = begin _ (rest_halt r h (any reduced has_model k has-delay i f) e)

  pub points-end : n ≤ i → Fills (row.operating_points 20 n) (point_list reduced has_model k has-delay n).dec old p (Ok nil) m₀ m
  unfolding point_list
  points-end h = begin _ (rest_end r h)

-- operating_points_cnt_minus_1, which five bits keep below 32, and by which the places of the points go
module _ (e : ℕ) (y : Refusal) {B : Type 0} (k : ℕ → Codec B) {p q : BitReader} {m z : List ℕ} where
  pub count_on : (j : ℕ) (l : ℕ → Layout (List ℕ) B) {v : ℕ} {s : BitReader} {g : Result Nil Refusal} → Said (f 5 0 0).dec p q (Ok v) → Laid (l v) (k v) q s g (set m j v) z
      → Laid (at 0 j same ▹ l) (allowed (λ count. leb count 31) y (f 5 e 0) ▷ k) p s g m z
  unfolding f ◌▹◌ at
  count_on j l {v} i (laid c) = laid (on _ k (allowed_yes _ y (f 5 e 0) i (le-leb v 31 (omega (arith, f_fits 5 0 0 i)))) c)

  pub then_count : (j : ℕ) (l : ℕ → Layout (List ℕ) B) {v : ℕ} {s : BitReader} {g : Result Nil Refusal} {h : Result ℕ Refusal} {x : _}
      → Said (f 5 0 0).dec p q h → h ≡ result_from_control_flow x → x ≡ Continue v → Laid (l v) (k v) q s g (set m j v) z → Laid (at 0 j same ▹ l) (allowed (λ count. leb count 31) y (f 5 e 0) ▷ k) p s g m z
  then_count j l i w h c = count_on j l (went i w h) c

  module _ {l : Layout (List ℕ) (ℕ × B)} {r : Result Nil Refusal} where
    pub count_halt : {x : Refusal} → Said (f 5 0 0).dec p q (Err x) → IsErrAnd r (λ z. z ≡ x) → Laid l (allowed (λ count. leb count 31) y (f 5 e 0) ▷ k) p q r m z
    unfolding f
    count_halt i w = put_halt _ k (allowed-stop _ y (f 5 e 0) i refl) w

    pub then_count_halt : {h : Result ℕ Refusal} {x : _} {b : _} → Said (f 5 0 0).dec p q h → h ≡ result_from_control_flow x → x ≡ Break b → IsErrAnd r (λ z. z ≡ b.0)
        → Laid l (allowed (λ count. leb count 31) y (f 5 e 0) ▷ k) p q r m z
    then_count_halt i w h c = count_halt (went_not i w h) c

pub final_list : {M : Type 0} {l : Layout M (List OperatingPoint)} (has_model : Bool) (k : ℕ) (has-delay : Bool) (n : ℕ) {p q : BitReader} {g : Result Nil Refusal} {m z : M}
    → Fills l (point_list false has_model k has-delay n).dec p q g m z → Laid l (operating_points has_model k has-delay n) p q g m z
unfolding operating_points point_list any_point
final_list has_model k has-delay n i = final _ i refl

pub ruleset pointings = (fields, no_parameters, reduced_laid, point_yes, point_no, count_on, count_halt, final_list)

pub ruleset point_steps = (fill_steps, no_parameters, reduced_laid, then_count, final_list)

pub ruleset point_exits = (fill_exits, then_count_halt)

pub ruleset loops = (rest_all, points_on, points_halt, points-end)
