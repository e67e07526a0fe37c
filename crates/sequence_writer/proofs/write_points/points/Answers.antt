use native.Mathlib.Omega.{arith}
use Rattle.bits.specs.Codec.{◌▷◌, via, allowed, f, flag}
use Rattle.sequence.specs.Points.{points}
use Rattle.writer.proofs.Walking.{walk, on, off, halt}
use Rattle.bits.proofs.Passing.{passed}
use Rattle.sequence_writer.proofs.Sizes.{field_few}
use Rattle.sequence_writer.proofs.write_points.points.Goals as goal

pub returns-in_err-flag : goal.returns-in_err-flag
unfolding points ◌▷◌ via allowed f flag
returns-in_err-flag c = search walk depth 14

pub returns-in_err-demand : goal.returns-in_err-demand
unfolding points ◌▷◌ via allowed f flag
returns-in_err-demand c =
    on c.flag.ensures c.branch-flag.ensures c.in_ok-flag.is (
    halt
    (off c.demand.ensures c.branch-demand.ensures c.in_err-demand.is c.from_residual-in_err-demand.ensures.1)
    (passed c.in_err-demand.field-0.0 c.from_residual-in_err-demand.result c.from_residual-in_err-demand.ensures.1))

pub returns-in_err-f : goal.returns-in_err-f
unfolding points ◌▷◌ via allowed f flag
returns-in_err-f c = search walk depth 14

-- the count was written
pub overflow_add-minus_1 : goal.overflow_add-minus_1
overflow_add-minus_1 c = omega (arith, field_few c.branch-f.ensures c.in_ok-f.is c.f.ensures)

pub operating_points-requires : goal.operating_points-requires
unfolding f
operating_points-requires c = omega (arith, field_few c.branch-f.ensures c.in_ok-f.is c.f.ensures)

pub returns : goal.returns
unfolding points ◌▷◌ via allowed f flag
returns c = search walk depth 14
