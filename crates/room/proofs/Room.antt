-- How much room is enough, and that one record takes all of it: for the sequence header, the temporal delimiter and the five parts.
use mathlib.Core.Path.{◌≡◌, refl}
use mathlib.Core.Bool.{true}
use Prim.Native.Nat.{◌*◌}
use native.Mathlib.Omega.{arith}
use Rattle.bits.specs.Bits.{Bits}
use Rattle.bits.specs.Walk.{wrote, run}
use Rattle.bits.specs.Codec.{via}
use Rattle.bits.specs.Codes.{leb128}
use Rattle.bits.proofs.Counting.{Few, few_by, Takes, unshort}
use Rattle.obu.specs.Delimiter.{temporal_delimiter}
use Rattle.obu.proofs.Writing.{wrote_all}
use Rattle.sequence.specs.declared.record.SequenceHeaderObu.{SequenceHeaderObu}
use Rattle.sequence.specs.Fields.{sequence_out}
use Rattle.sequence.specs.Sequence.{sequence_header_obu, sequence_header}
use Rattle.sequence.proofs.Counts as sequence
use Rattle.quantization.specs.Quantization.{quantization_out, quantization_params}
use Rattle.quantization.proofs.Counts as quantization-counts
use Rattle.segmentation.proofs.Counts as segmentation-counts
use Rattle.loop_filter.proofs.Counts as loop-filter-counts
use Rattle.cdef.proofs.Counts as cdef-counts
use Rattle.restoration.proofs.Counts as lr-counts
use Rattle.room.specs.Enough.{EnoughBytes, EnoughBits}
use Rattle.room.specs.Longest.{sequence_header_max, extended, longest_header, temporal_delimiter_max, quantization_max_bits, quantization, longest_quantization, segmentation_max_bits, segmentation, longest_segmentation, loop_filter_max_bits, loop_filter, longest_loop_filter, cdef_max_bits, cdef, longest_cdef, lr_max_bits, lr, longest_lr}
use Rattle.room.proofs.Obus.{enough_bytes, obu-most, obu_takes, obu-unshort, delimiter_most, delimiter_unshort}
use Rattle.room.proofs.Parts.{enough_bits}
use Rattle.room.proofs.Reached.{payload_takes, size_takes, header_takes, delimiter_takes, quantization_takes, segmentation_takes, loop_filter_takes, cdef_takes, lr_takes}

-- The sequence header: 3139 bits of payload have 393 bytes with the trailing bits, and so a size of two.
abbrev size : Bits
size = (run ((leb128 8).enc 393)).bits

size_is : run ((leb128 8).enc 393) ≡ wrote size
size_is = wrote_all (run ((leb128 8).enc 393)) size_takes.ends

header-few : (h : SequenceHeaderObu) → Few (sequence_header_max * 8) (sequence_header.enc h)
unfolding sequence_header via
header-few h = record {
  most = λ bs e. omega (arith, size_takes.bits, (obu-most 1 sequence_header_obu 3139 size size_is h.obu_header (sequence_out h) (sequence.few (sequence_out h))).most bs e);
}

header-unshort : (h : SequenceHeaderObu) → unshort (sequence_header.enc h) ≡ true
unfolding sequence_header via
header-unshort h = obu-unshort 1 sequence_header_obu h.obu_header (sequence_out h) (sequence.own (sequence_out h))

longest_takes : Takes (sequence_header_max * 8) (sequence_header.enc longest_header)
unfolding sequence_header via
longest_takes =
    let g = obu_takes 1 sequence_header_obu 3139 size size_is (extended 1) (sequence_out longest_header) header_takes refl payload_takes in
    record { ends = g.ends; bits = omega (arith, g.bits, size_takes.bits) }

pub sequence_header_enough : EnoughBytes (λ h. sequence_header.enc h) sequence_header_max longest_header
sequence_header_enough = enough_bytes (λ h. sequence_header.enc h) sequence_header_max header-few header-unshort longest_header longest_takes

pub temporal_delimiter_enough : EnoughBytes temporal_delimiter temporal_delimiter_max (extended 2)
temporal_delimiter_enough = enough_bytes temporal_delimiter temporal_delimiter_max delimiter_most delimiter_unshort (extended 2) delimiter_takes

pub quantization_enough : EnoughBits quantization quantization_max_bits longest_quantization
unfolding quantization_params via
quantization_enough =
    enough_bits quantization quantization_max_bits (λ (context, q). few_by (quantization-counts.within context (quantization_out q)).most) (λ (context, q). (quantization-counts.within context (quantization_out q)).own)
    longest_quantization quantization_takes

pub segmentation_enough : EnoughBits segmentation segmentation_max_bits longest_segmentation
segmentation_enough =
    enough_bits segmentation segmentation_max_bits (λ (context, p). segmentation-counts.few context p) (λ (context, p). (segmentation-counts.within context p).own)
    longest_segmentation segmentation_takes

pub loop_filter_enough : EnoughBits loop_filter loop_filter_max_bits longest_loop_filter
loop_filter_enough =
    enough_bits loop_filter loop_filter_max_bits (λ (context, p). few_by (loop-filter-counts.within context p).most) (λ (context, p). (loop-filter-counts.within context p).own)
    longest_loop_filter loop_filter_takes

pub cdef_enough : EnoughBits cdef cdef_max_bits longest_cdef
cdef_enough =
    enough_bits cdef cdef_max_bits (λ (context, p). few_by (cdef-counts.within context p).most) (λ (context, p). (cdef-counts.within context p).own)
    longest_cdef cdef_takes

pub lr_enough : EnoughBits lr lr_max_bits longest_lr
lr_enough =
    enough_bits lr lr_max_bits (λ (context, p). few_by (lr-counts.within context p).most) (λ (context, p). (lr-counts.within context p).own)
    longest_lr lr_takes
