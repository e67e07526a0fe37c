use Rattle.std.proofs.Common.{◌≡◌}
use Rattle.bits.specs.Bits.{put, to_bits, limit}
use Rattle.writer.proofs.store.put_bits.Given as goal

abbrev pub invariant-loop-place : goal.invariant-loop-place
invariant-loop-place l =
    (put l.out l.place-iterator.a.start (to_bits l.place-iterator.b.iter.end l.fn.value) ≡ put l.fn.out l.fn.at (to_bits l.fn.width l.fn.value))
    × (l.place-iterator.a.end ≡ limit) × (l.place-iterator.b.iter.start ≡ 0)
