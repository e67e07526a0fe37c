-- A sequence header's walk looks at no point beyond the count.
use mathlib.Core.Path.{◌≡◌}
use mathlib.Core.List.{List}
use mathlib.Core.Bool.{Bool, true, false}
use Prim.Native.Nat.{ℕ, ◌+◌, ◌<◌, ◌≤◌}
use native.Mathlib.Omega.{arith}
use lib.ListN.{get_or}
use Rattle.bits.specs.Codec.{inferred, inferred_flag, flag, f, allowed, choose, via, ◌▷◌}
use Rattle.bits.proofs.Leaves.{array-coded}
use Rattle.obu.specs.Obu.{obu}
use Rattle.sequence.specs.declared.record.OperatingPoint.{OperatingPoint}
use Rattle.sequence.specs.declared.record.SequenceHeaderObu.{SequenceHeaderObu}
use Rattle.sequence.specs.declared.group.Timing.{Timing}
use Rattle.sequence.specs.Fields.{timing_of, points_in, body_out, record_in}
use Rattle.sequence.specs.Points.{no_point, operating_points, points, reduced_points}
use Rattle.sequence.specs.Sequence.{full_general, reduced_general, general, body, sequence_header_obu, sequence_header}

-- the header with other points
abbrev pub with_points : SequenceHeaderObu → List OperatingPoint → SequenceHeaderObu
with_points h ps =
    record_in (h.obu_header, (h.seq_profile, (h.still_picture, (h.reduced_still_picture_header, ((timing_of h, points_in (h.initial_display_delay_present_flag, (h.operating_points_cnt_minus_1, ps))), (body_out h).1)))))

module _ (count : ℕ) (ps qs : List OperatingPoint) (same : (i : ℕ) → i < 32 → i ≤ count → get_or ps i no_point ≡ get_or qs i no_point) where
  full_unused : (has_model : Bool) (k : ℕ) (has-delay : Bool) → (points has_model k).coded (points_in (has-delay, (count, ps))) ≡ (points has_model k).coded (points_in (has-delay, (count, qs)))
  unfolding points operating_points via ◌▷◌ allowed f flag
  full_unused has_model k has-delay = rw (array-coded no_point _ (count + 1) 32 0 ps qs (λ j a b. same j a (omega arith)))

  reduced_unused : (has-delay : Bool) → reduced_points.coded (points_in (has-delay, (count, ps))) ≡ reduced_points.coded (points_in (has-delay, (count, qs)))
  unfolding reduced_points via ◌▷◌ inferred_flag inferred
  reduced_unused has-delay = rw (array-coded no_point _ 1 32 0 ps qs (λ j a b. same j a (omega arith)))

  general_unused : (reduced : Bool) (t : Timing) (has-delay : Bool) → (general reduced).coded (t, points_in (has-delay, (count, ps))) ≡ (general reduced).coded (t, points_in (has-delay, (count, qs)))
  unfolding general full_general reduced_general choose ◌▷◌
  general_unused true t has-delay = rw (reduced_unused has-delay)
  general_unused false t has-delay = rw (full_unused _ _ has-delay)

pub unused : (h : SequenceHeaderObu) (ps qs : List OperatingPoint) → ((i : ℕ) → i < 32 → i ≤ h.operating_points_cnt_minus_1 → get_or ps i no_point ≡ get_or qs i no_point) → sequence_header.coded (with_points h ps) ≡ sequence_header.coded (with_points h qs)
unfolding sequence_header sequence_header_obu body obu via ◌▷◌
unused h ps qs same = rw (general_unused h.operating_points_cnt_minus_1 ps qs same (flag.coded h.reduced_still_picture_header) (timing_of h) h.initial_display_delay_present_flag)
