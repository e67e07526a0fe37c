use Rattle.std.proofs.Common.{arith, ◌≤◌, ◌-◌, length, length-take, length-drop, take, drop}
use Rattle.bits.proofs.Places.{end_is}
use Rattle.writer.proofs.Bytes.{from-word}
use Rattle.writer.proofs.store.window.Goals as goal

pub slice_bounds-first_chunk-count : goal.slice_bounds-first_chunk-count
slice_bounds-first_chunk-count c = omega (arith, c.requires, end_is c.args.s.now)

pub slice_bounds-first_chunk-start : goal.slice_bounds-first_chunk-start
slice_bounds-first_chunk-start c = omega (arith, c.requires, end_is c.args.s.now)

pub unwrap-requires : goal.unwrap-requires
unwrap-requires c = let t : 8 ≤ length (take (length c.args.s.now - c.args.i) (drop c.args.i c.args.s.now)) = rw (length-take, length-drop) (omega (arith, c.requires, end_is c.args.s.now)) in c.first_chunk.ensures.variant.1 t

pub returns : goal.returns
returns c =
    let f = rw c.unwrap.ensures at c.first_chunk.ensures.cases in record {
      bits = from-word c.args.s.now c.args.i c.requires (λ k. (c.type_inv.s k).fits) f.same c.from_be_bytes.ensures;
      bytes = λ k. (c.type_inv.s k).fits;
    }
