-- No context can be built that disagrees with a record that the writer accepts, or that the reader gave.
use mathlib.Core.Path.{◌≡◌}
use mathlib.Core.Bool.{Bool, true, false}
use mathlib.Core.List.{List}
use Prim.Native.Nat.{ℕ}
use lib.Dec.{eqb}
use Rattle.bits.specs.Codec.{◌▷◌, select, via, flag, inferred, Nil, nil}
use Rattle.bits.specs.Written.{Answer}
use Rattle.bits.specs.declared.answer.Refusal.{Refusal}
use Rattle.std.specs.Prelude.{Result, Ok}
use Rattle.obu.specs.Obu.{obu}
use Rattle.obu.specs.Writer.{Writes}
use Rattle.obu.specs.Demand3.{Consistent}
use Rattle.obu.proofs.Writing.{done_is_ended}
use Rattle.sequence.specs.declared.record.ColorConfig.{ColorConfig}
use Rattle.sequence.specs.declared.record.SequenceHeaderObu.{SequenceHeaderObu}
use Rattle.sequence.specs.Optional.{flag_if}
use Rattle.sequence.specs.Color.{plane_count, color_rest, color_config}
use Rattle.sequence.specs.Sequence.{color_and_grain, tools_and_color, body, sequence_header_obu, sequence_header}
use Rattle.sequence.proofs.Demand.{sequence_demand3}
use Rattle.sequence_reader.specs.Layouts.{record_of}
use Rattle.sequence_reader.specs.Reader.{Answers}
use Rattle.sequence_reader.proofs.Setting.{record_sets}
use Rattle.sequence_reader.proofs.Numbering.{record_is}
use Rattle.contexts.specs.Contexts.{quantization_context, loop_filter_context, cdef_context, lr_context}

-- What each context is: the record's own, with one plane where mono_chrome is set and three where it is not.
module _ (h : SequenceHeaderObu) where
  abbrev color : ColorConfig
  color = h.color_config

  abbrev right : ℕ
  right = plane_count color.mono_chrome

  pub record Agrees : Type 0 where
    pub quantization : quantization_context h ≡ record { planes = right; separate_uv_delta_q = color.separate_uv_delta_q }
    pub loop_filter : (lossless intrabc : Bool) → loop_filter_context h lossless intrabc ≡ record { coded_lossless = lossless; allow_intrabc = intrabc; planes = right }
    pub cdef : (lossless intrabc : Bool) → cdef_context h lossless intrabc ≡ record { coded_lossless = lossless; allow_intrabc = intrabc; enable_cdef = h.enable_cdef; planes = right }
    pub restoration : (lossless intrabc : Bool) → lr_context h lossless intrabc ≡ record {
      all_lossless = lossless;
      allow_intrabc = intrabc;
      enable_restoration = h.enable_restoration;
      planes = right;
      use_128x128_superblock = h.use_128x128_superblock;
      subsampling_x = color.subsampling_x;
      subsampling_y = color.subsampling_y;
    }

-- so they are where the record's number of planes is right, ..
counts_right : (mono : Bool) {n : ℕ} → n ≡ plane_count mono → plane_count (eqb n 1) ≡ plane_count mono
counts_right true e = rw e
counts_right false e = rw e

agrees : (h : SequenceHeaderObu) → h.color_config.num_planes ≡ right h → Agrees h
agrees h e =
    let c = counts_right h.color_config.mono_chrome e in
    record { quantization = rw c; loop_filter = λ l i. rw c; cdef = λ l i. rw c; restoration = λ l i. rw c }

-- .. as it is in every consistent record, since it is in what is read of it
consistent_planes : (h : SequenceHeaderObu) → Consistent sequence_header h → h.color_config.num_planes ≡ right h
unfolding sequence_header sequence_header_obu body tools_and_color color_and_grain color_config color_rest flag_if obu ◌▷◌ select via flag inferred
consistent_planes h c =
    let g = sequence_demand3.consistent_is_written h c in
    (record_sets g.0 _ _ (sequence_demand3.spelled_is_accepted h g.0 g.1.spells)).color.num_planes

pub writer_agrees : (h : SequenceHeaderObu) {xs ys : List ℕ} {a : Answer} {n : ℕ} → Writes (sequence_header.enc h) xs a ys → a ≡ Ok n → Agrees h
writer_agrees h w e = agrees h (consistent_planes h (done_is_ended w e))

pub reader_agrees : (xs ns : List ℕ) {o : Result Nil Refusal} {ms : List ℕ} → Answers xs ns o ms → o ≡ Ok nil → Agrees (record_of ms)
reader_agrees xs ns {ms = ms} a e = let g = record_is xs ns a e in agrees (record_of ms) (record_sets xs (record_of ms) g.0 g.1).color.num_planes
