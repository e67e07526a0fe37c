-- Each part is walked once, into an array: `Arrays` has the laws.
use mathlib.Core.Path.{refl}
use Prim.Native.Nat.{◌/◌}
use native.Mathlib.Omega.{arith}
use lib.Dec.{lit≤}
use lib.ListN.{length-take}
use Rattle.bits.specs.Codec.{via}
use Rattle.bits.proofs.Passing.{taken}
use Rattle.writer.proofs.Walking.{on, lent}
use Rattle.obu.proofs.Framing.{padded-few}
use Rattle.sequence.specs.Fields.{sequence_out}
use Rattle.sequence.specs.Sequence.{sequence_header_obu, sequence_header}
use Rattle.sequence.proofs.Counts.{few}
use Rattle.sequence_writer.proofs.Arrays.{longer, no_header, no_payload, no_size, sized_few, string_count, string_few, once}
use Rattle.sequence_writer.proofs.write.write_sequence_header.Goals as goal

pub returns-then-out-gt65536 : goal.returns-then-out-gt65536
returns-then-out-gt65536 c = longer c.if-out-gt65536.true

pub returns-in_err-header : goal.returns-in_err-header
unfolding sequence_header via
returns-in_err-header c =
    let b = c.args.«record» in
    no_header 1 sequence_header_obu b.obu_header (sequence_out b) c.if-out-gt65536.false c.branch-header.ensures c.in_err-header.is c.from_residual.ensures.1 c.header.ensures

pub returns-in_err-padded_payload : goal.returns-in_err-padded_payload
unfolding sequence_header via
returns-in_err-padded_payload c =
    let b = c.args.«record» in
    no_payload 1 sequence_header_obu b.obu_header (sequence_out b) c.if-out-gt65536.false c.branch-padded_payload.ensures c.in_err-padded_payload.is c.from_residual-in_err-padded_payload.ensures.1
    c.header.ensures c.branch-header.ensures c.in_ok-header.is c.padded_payload.ensures

pub returns-in_err-obu_size : goal.returns-in_err-obu_size
unfolding sequence_header via
returns-in_err-obu_size c =
    let b = c.args.«record» in
    no_size 1 sequence_header_obu b.obu_header (sequence_out b) c.if-out-gt65536.false c.branch-obu_size.ensures c.in_err-obu_size.is c.from_residual-in_err-obu_size.ensures.1
    b.obu_header.has_size_field c.capped.result _ c.capped.ensures c.obu_size.ensures

pub slice_bounds-head_bytes-end : goal.slice_bounds-head_bytes-end
slice_bounds-head_bytes-end c =
    let h = on c.header.ensures c.branch-header.ensures c.in_ok-header.is c.obu_size.ensures in
    let q = taken _ c.branch-obu_size.ensures c.in_ok-obu_size.is in
    let n = string_count 10 (sized_few 1 c.args.«record».obu_header c.args.«record».obu_header.has_size_field c.capped.result) (lit≤ tt) (lit≤ tt) refl refl h q in
    rw (lent h c.head_bytes-2-1.given) (omega (arith, n, length-take (c.obu_size.new.w.at / 8) c.obu_size.new.w.out.now))

pub slice_bounds-payload_bytes-end : goal.slice_bounds-payload_bytes-end
slice_bounds-payload_bytes-end c =
    let q = taken _ c.branch-padded_payload.ensures c.in_ok-padded_payload.is in
    let n = string_count 400 (padded-few (few (sequence_out c.args.«record»))) (lit≤ tt) (lit≤ tt) refl refl c.padded_payload.ensures q in
    rw (lent c.padded_payload.ensures c.payload_bytes-2-1.given) (omega (arith, n, length-take (c.padded_payload.new.w.at / 8) c.padded_payload.new.w.out.now))

pub slice_bounds-write_strings-end : goal.slice_bounds-write_strings-end
slice_bounds-write_strings-end c =
    let h = on c.header.ensures c.branch-header.ensures c.in_ok-header.is c.obu_size.ensures in
    let q = taken _ c.branch-obu_size.ensures c.in_ok-obu_size.is in
    rw (lent h c.head_bytes-2-1.given) (string_count 10 (sized_few 1 c.args.«record».obu_header c.args.«record».obu_header.has_size_field c.capped.result) (lit≤ tt) (lit≤ tt) refl refl h q)

pub slice_bounds-write_strings-end-2 : goal.slice_bounds-write_strings-end-2
slice_bounds-write_strings-end-2 c =
    let q = taken _ c.branch-padded_payload.ensures c.in_ok-padded_payload.is in
    rw (lent c.padded_payload.ensures c.payload_bytes-2-1.given) (string_count 400 (padded-few (few (sequence_out c.args.«record»))) (lit≤ tt) (lit≤ tt) refl refl c.padded_payload.ensures q)

pub write_strings-requires : goal.write_strings-requires
write_strings-requires c =
    let h = on c.header.ensures c.branch-header.ensures c.in_ok-header.is c.obu_size.ensures in
    let q = taken _ c.branch-obu_size.ensures c.in_ok-obu_size.is in
    let r = taken _ c.branch-padded_payload.ensures c.in_ok-padded_payload.is in
    rw (lent h c.head_bytes-2-1.given, lent c.padded_payload.ensures c.payload_bytes-2-1.given) (
    omega (
      arith,
      string_few 10 (sized_few 1 c.args.«record».obu_header c.args.«record».obu_header.has_size_field c.capped.result) (lit≤ tt) (lit≤ tt) refl refl h q,
      string_few 400 (padded-few (few (sequence_out c.args.«record»))) (lit≤ tt) (lit≤ tt) refl refl c.padded_payload.ensures r,
    ))

pub returns : goal.returns
unfolding sequence_header via
returns c =
    let b = c.args.«record» in
    let h = on c.header.ensures c.branch-header.ensures c.in_ok-header.is c.obu_size.ensures in
    once 1 sequence_header_obu b.obu_header (sequence_out b) c.capped.result 400 (few (sequence_out b)) (lit≤ tt) (lit≤ tt)
    refl refl h (taken _ c.branch-obu_size.ensures c.in_ok-obu_size.is)
    refl refl c.padded_payload.ensures (taken _ c.branch-padded_payload.ensures c.in_ok-padded_payload.is) c.capped.ensures
    (rw (lent h c.head_bytes-2-1.given, lent c.padded_payload.ensures c.payload_bytes-2-1.given) at c.write_strings.ensures)
