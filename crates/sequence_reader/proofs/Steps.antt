-- How single steps are read: what is coded under a condition, of whatever element; seq_profile; and a colour description that is put into the array.
use mathlib.Core.Path.{◌≡◌, refl}
use mathlib.Core.List.{List}
use mathlib.Core.Bool.{Bool}
use Prim.Native.Nat.{ℕ, ◌<◌, ◌≤◌}
use lib.ListN.{set}
use mir.Val.{bool_byte}
use borrow.Author.Tests.{le-leb, lt-leb}
use Rattle.std.specs.Prelude.{Result, Ok, Err, IsErrAnd}
use Rattle.std.specs.Result.{result_from_control_flow}
use Rattle.std.specs.declared.ops.ControlFlow.TheVariants.{Continue}
use Rattle.bits.specs.Bits.{Bits}
use Rattle.bits.specs.Answers.{found, Moved}
use Rattle.bits.specs.Codec.{Codec, Got, f, select, inferred, inferred_flag, within, ◌▷◌, Nil, nil}
use Rattle.bits.specs.Elements.{seq_profile}
use Rattle.bits.specs.declared.answer.Refusal.{Refusal}
use Rattle.bits.specs.declared.answer.Refusal.TheVariants.{Inconsistent}
use Rattle.reader.specs.declared.BitReader.{BitReader}
use Rattle.reader.specs.Reading.{Said, said}
use Rattle.reader.proofs.Reading.{readings, steps, on, went, stops, exit, By, by, read_by}
use Rattle.fill.specs.Fills.{Layout, same, bit, at, of, ◌▸◌}
use Rattle.fill.proofs.Filling.{Laid, laid, fillings, filled_steps, filled_exits, known, struct_on, group_on}
use Rattle.sequence.specs.declared.group.ColorDescription.{ColorDescription}
use Rattle.sequence.specs.Fields.{color_description_out, color_description_in}
use Rattle.sequence.specs.Optional.{f_if, flag_if}
use Rattle.sequence.specs.Sequence.{profile}

module _ (coded : Bool) (e i : ℕ) (x : Bool) where
  pub by_flag_if : By (flag_if coded e i x) (flag_if coded 0 0 x).dec
  unfolding flag_if select inferred_flag
  by_flag_if = by (λ bs. refl)

  pub flag_if_of : {p q : BitReader} {r : Result Bool Refusal} → Said (flag_if coded 0 0 x).dec p q r → Said (flag_if coded e i x).dec p q r
  flag_if_of s = read_by (flag_if coded e i x) s by_flag_if

module _ (coded : Bool) (n e i x : ℕ) where
  pub by_f_if : By (f_if coded n e i x) (f_if coded n 0 0 x).dec
  unfolding f_if select inferred f
  by_f_if = by (λ bs. refl)

  pub f_if_of : {p q : BitReader} {r : Result ℕ Refusal} → Said (f_if coded n 0 0 x).dec p q r → Said (f_if coded n e i x).dec p q r
  f_if_of s = read_by (f_if coded n e i x) s by_f_if

-- seq_profile, of which 3 to 7 are forbidden
module _ {p q : BitReader} where
  pub profile-stop : {y : Refusal} {r : Result ℕ Refusal} → Said (f 3 0 0).dec p q (Err y) → IsErrAnd r (λ z. z ≡ y) → Said profile.dec p q r
  unfolding profile within f
  profile-stop s i = rw (exit i) (stops _ s (λ bs e. rw e refl))

  module _ {v : ℕ} (s : Said (f 3 0 0).dec p q (Ok v)) where
    pub profile_yes : v ≤ 2 → Said profile.dec p q (Ok v)
    unfolding profile within f found Moved
    profile_yes h = go s
      where
        go : Said (f 3 0 0).dec p q (Ok v) → Said profile.dec p q (Ok v)
        go (said e r) = said e (record { finds = rw (r.finds, le-leb v 2 h) refl; moves = r.moves })

    pub profile_no : 2 < v → Said profile.dec p q (Err (Inconsistent seq_profile 0))
    unfolding profile within f found Moved
    profile_no h = go s
      where
        go : Said (f 3 0 0).dec p q (Ok v) → Said profile.dec p q (Err (Inconsistent seq_profile 0))
        go (said e r) = said e (record { finds = rw (r.finds, lt-leb v 2 h) refl; moves = nil })

-- a number that was computed, as the last
pub known_when : (e c i : ℕ) {x y : ℕ} {p : BitReader} {m z : List ℕ} → y ≡ x → z ≡ set m i y → Laid (at 0 i same) (inferred e c x) p p (Ok nil) m z
known_when e c i {x} h k = known e c x 0 i same (rw h at k)

module _ {B : Type 0} (j : Layout (List ℕ) B) {p q s : BitReader} {g : Result Nil Refusal} {m z : List ℕ} (i o u v : ℕ) (t : Codec ColorDescription) (k : ColorDescription → Codec B) {a : ColorDescription} where
  pub description_on : Said t.dec p q (Ok a)
      → Laid j (k a) q s g (set (set (set (set m i (bool_byte a.color_description_present_flag)) o a.color_primaries) u a.transfer_characteristics) v a.matrix_coefficients) z
      → Laid (of color_description_out color_description_in (at 0 i bit ▸ at 0 o same ▸ at 0 u same ▸ at 0 v same) ▸ j) (t ▷ k) p s g m z
  unfolding of at ◌▸◌
  description_on r (laid c) = laid (on t k r c)

  pub then_description : {d : Bits → Got ColorDescription} {h : Result ColorDescription Refusal} {x : _} → Said d p q h → By t d → h ≡ result_from_control_flow x → x ≡ Continue a
      → Laid j (k a) q s g (set (set (set (set m i (bool_byte a.color_description_present_flag)) o a.color_primaries) u a.transfer_characteristics) v a.matrix_coefficients) z
      → Laid (of color_description_out color_description_in (at 0 i bit ▸ at 0 o same ▸ at 0 u same ▸ at 0 v same) ▸ j) (t ▷ k) p s g m z
  then_description r b e f c = description_on (read_by t (went r e f) b) c

pub ruleset values = (readings, flag_if_of, f_if_of)

pub ruleset value_steps = (steps, by_flag_if, by_f_if)

pub ruleset profiles = (profile-stop, profile_yes, profile_no)

pub ruleset fields = (fillings, flag_if_of, f_if_of, description_on)

pub ruleset fill_steps = (filled_steps, by_flag_if, by_f_if, then_description)

pub ruleset fill_exits = (filled_exits, by_flag_if, by_f_if, then_description)

-- the same where a struct or a group of steps stands inside the table
pub ruleset grouped_steps = (fill_steps, struct_on, group_on)
