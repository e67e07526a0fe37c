use native.Mathlib.Omega.{arith}
use Rattle.bits.specs.Codec.{◌▷◌, f}
use Rattle.sequence.specs.Frame.{frame_size_fields, max_frame_size}
use Rattle.writer.proofs.Walking.{walk}
use Rattle.sequence_writer.proofs.Sizes.{field_few}
use Rattle.sequence_writer.proofs.write_frame.frame_size_fields.Goals as goal

pub returns-in_err-f : goal.returns-in_err-f
unfolding frame_size_fields max_frame_size ◌▷◌ f
returns-in_err-f c = search walk depth 14

pub returns-in_err-f-2 : goal.returns-in_err-f-2
unfolding frame_size_fields max_frame_size ◌▷◌ f
returns-in_err-f-2 c = search walk depth 14

-- both counts were written
pub overflow_add-width_bits : goal.overflow_add-width_bits
overflow_add-width_bits c = omega (arith, field_few c.branch-f.ensures c.in_ok-f.is c.f.ensures)

pub returns-in_err-f-3 : goal.returns-in_err-f-3
unfolding frame_size_fields max_frame_size ◌▷◌ f
returns-in_err-f-3 c = search walk depth 14

pub overflow_add-height_bits : goal.overflow_add-height_bits
overflow_add-height_bits c = omega (arith, field_few c.branch-f-2.ensures c.in_ok-f-2.is c.f-2.ensures)

pub returns : goal.returns
unfolding frame_size_fields max_frame_size ◌▷◌ f
returns c = search walk depth 14
