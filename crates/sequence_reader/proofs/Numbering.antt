-- The record that the numbers are is the one whose numbers they are: `record_back`, and of what the public reader leaves, `record_is`.
use mathlib.Core.Path.{◌≡◌, refl, sym, ap, ◌∙◌}
use mathlib.Core.List.{List}
use Prim.Native.Nat.{ℕ, ◌+◌, ◌*◌}
use native.Mathlib.Omega.{arith}
use lib.ListN.{replicate, length-replicate}
use Rattle.std.specs.Prelude.{Result, Ok}
use Rattle.bits.specs.Bits.{Bits}
use Rattle.bits.specs.declared.answer.Refusal.{Refusal}
use Rattle.bits.specs.Codec.{got, Nil, nil}
use Rattle.obu.specs.Demand3.{read}
use Rattle.obu.specs.Header.{header_out, header_in}
use Rattle.fill.proofs.Lying.{Lies, Any, Items, lies_of, lies_both, lies_then, lies_each, within, word_at, flag_at, Stands, stands, word_stands, flag_stands, none_stands, both_stand, struct_stands, any_both, any_struct}
use Rattle.fill.specs.Rows.{word, flag, ◌&◌}
use Rattle.sequence.specs.declared.record.SequenceHeaderObu.{SequenceHeaderObu}
use Rattle.sequence.specs.declared.group.Points.{Points}
use Rattle.sequence.specs.Fields as fields
use Rattle.sequence.specs.Points.{no_point}
use Rattle.sequence.specs.Sequence.{sequence_header}
use Rattle.sequence_reader.specs.Layouts as row
use Rattle.sequence_reader.specs.Layouts.{numbers_of, record_of}
use Rattle.sequence_reader.specs.Places.{numbers}
use Rattle.sequence_reader.specs.Reader.{Answers}
use Rattle.sequence_reader.proofs.Demand.{accepted}
use Rattle.sequence_reader.proofs.Setting.{record_sets}

-- a point
module _ (i : ℕ) where
  parameters : Lies Any (row.operating_parameters_info i) (i + 4) (i + 7)
  parameters = lies_of Any _ _ (λ b g. (refl, (nil, (nil, nil)))) (lies_both (word_at (i + 4) (i + 5) (omega arith)) (omega arith) (omega arith) (lies_both (word_at (i + 5) (i + 6) (omega arith)) (omega arith) (omega arith) (flag_at (i + 6) (i + 7) (omega arith))))

  model : Lies Any (row.point_model i) (i + 3) (i + 7)
  model = lies_of Any _ _ (λ b g. (refl, (nil, nil))) (lies_both (flag_at (i + 3) (i + 4) (omega arith)) (omega arith) (omega arith) parameters)

  delay : Lies Any (row.point_delay i) (i + 7) (i + 9)
  delay = lies_of Any _ _ (λ b g. (refl, (nil, nil))) (lies_both (flag_at (i + 7) (i + 8) (omega arith)) (omega arith) (omega arith) (word_at (i + 8) (i + 9) (omega arith)))

  point : Lies Any (row.operating_point i) i (i + 9)
  point =
      lies_of Any _ _ (λ b g. (refl, (nil, (nil, (nil, (nil, nil))))))
      (lies_both (word_at i (i + 1) refl) (omega arith) (omega arith) (lies_both (word_at (i + 1) (i + 2) (omega arith)) (omega arith) (omega arith) (lies_both (word_at (i + 2) (i + 3) (omega arith)) (omega arith) (omega arith) (lies_both model (omega arith) (omega arith) delay))))

-- the points: 32, and zeros beyond the count
abbrev pub Used : Points → Type 0
Used p = Items no_point 32 0 (p.operating_points_cnt_minus_1 + 1) p.operating_points

points : Stands Used row.points
points = stands (λ i.
    lies_of Used _ _ (λ b g. (refl, (nil, (nil, g))))
    (lies_both (flag_at i (i + 1) refl) (omega arith) (omega arith)
    (lies_then (word_at (i + 1) (i + 2) (omega arith)) (omega arith) (omega arith)
    (λ count. within (omega arith) (omega arith) (lies_each no_point (λ k. row.operating_point (i + 2 + 9 * k)) (λ k. i + 2 + 9 * k) (λ k. omega arith) (λ k. within refl (omega arith) (point (i + 2 + 9 * k))) (count + 1) 32 0)))))

-- the groups
three : Stands Any (flag & flag & flag)
three = any_both flag_stands (any_both flag_stands flag_stands)

four : Stands Any (word & word & word & word)
four = any_both word_stands (any_both word_stands (any_both word_stands word_stands))

timing : Stands Any row.timing
timing =
    any_struct fields.timing_out fields.timing_in (λ _. refl)
    (any_both flag_stands (any_both (any_struct fields.timing_info_out fields.timing_info_in (λ _. refl) (any_both word_stands (any_both word_stands (any_both flag_stands word_stands)))) (any_both flag_stands (any_struct fields.decoder_model_info_out fields.decoder_model_info_in (λ _. refl) four))))

choice : Stands Any row.choice
choice = any_struct fields.choice_out fields.choice_in (λ _. refl) (any_both flag_stands word_stands)

order_tools : Stands Any row.order_tools
order_tools =
    any_both flag_stands (any_both flag_stands (any_both (any_struct fields.hint_tools_out fields.hint_tools_in (λ _. refl) (any_both flag_stands flag_stands))
    (any_both choice (any_both choice (any_struct fields.hint_bits_out fields.hint_bits_in (λ _. refl) (any_both word_stands word_stands))))))

color : Stands Any row.color_config
color =
    any_struct fields.color_config_out fields.color_config_in (λ _. refl)
    (any_both flag_stands (any_both flag_stands (any_both flag_stands (any_both (any_struct fields.color_description_out fields.color_description_in (λ _. refl) (any_both flag_stands (any_both word_stands (any_both word_stands word_stands))))
    (any_both (any_struct fields.planes_out fields.planes_in (λ _. refl) (any_both flag_stands (any_both (any_struct fields.sampling_out fields.sampling_in (λ _. refl) (any_both flag_stands (any_both flag_stands word_stands))) flag_stands))) word_stands)))))

tools_and_color : Stands Any row.tools_and_color
tools_and_color =
    any_both (any_struct fields.block_tools_out fields.block_tools_in (λ _. refl) three)
    (any_both (any_struct fields.inter_tools_out fields.inter_tools_in (λ _. refl) (any_both flag_stands (any_both flag_stands (any_both flag_stands order_tools))))
    (any_both (any_struct fields.filter_tools_out fields.filter_tools_in (λ _. refl) three) (any_both color flag_stands)))

frame : Stands Any (row.frame_size & row.frame_ids & row.tools_and_color)
frame =
    any_both (any_struct fields.frame_size_out fields.frame_size_in (λ _. refl) four)
    (any_both (any_struct fields.frame_ids_out fields.frame_ids_in (λ _. refl) (any_both flag_stands (any_both word_stands word_stands))) tools_and_color)

obu_header : Stands Any row.obu_header
obu_header =
    any_struct header_out header_in (λ _. refl)
    (any_both none_stands (any_both word_stands (any_both flag_stands (any_both flag_stands (any_both none_stands (any_both word_stands (any_both word_stands none_stands)))))))

-- the whole
whole : Stands (λ (h : SequenceHeaderObu). Used (fields.points_of h)) row.header
whole =
    struct_stands _ fields.record_out fields.record_in (λ h u. (refl, (nil, (nil, (nil, (nil, ((nil, u), nil)))))))
    (both_stand obu_header (both_stand word_stands (both_stand flag_stands (both_stand flag_stands (both_stand (both_stand timing points) frame)))))

pub record_back : (h : SequenceHeaderObu) → Used (fields.points_of h) → record_of (numbers_of h) ≡ h
unfolding record_of numbers_of
record_back h u = go whole
  where
    go : Stands (λ (k : SequenceHeaderObu). Used (fields.points_of k)) row.header → record_of (numbers_of h) ≡ h
    go (stands W) = (W 0).back h u (replicate numbers 0) (rw (length-replicate {A = ℕ} numbers 0) (omega arith))

-- what the public reader leaves are the numbers of the record that is read, which they are
pub record_is : (xs ns : List ℕ) {o : Result Nil Refusal} {ms : List ℕ} → Answers xs ns o ms → o ≡ Ok nil → (rest : Bits) × (read sequence_header xs ≡ got (record_of ms) rest)
record_is xs ns {ms = ms} a e =
    let g = accepted xs ns a e in
    let s = (record_sets xs g.it g.rest g.reads).points in
    let u : Used (fields.points_of g.it) = record { places = s.places; beyond = λ i h. s.beyond i (omega arith) } in
    let k : record_of ms ≡ g.it = ap record_of g.numbers ∙ record_back g.it u in
    (g.rest, g.reads ∙ ap (λ (h : SequenceHeaderObu). got h g.rest) (sym k))
