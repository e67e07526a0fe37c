-- A part whose flag is clear is read, and refused by nothing; and one whose flag is set.
use mathlib.Core.Path.{◌≡◌, refl}
use mathlib.Core.List.{List}
use mathlib.Core.Bool.{Bool, true, false}
use lib.IntN.{ℤ, pos}
use lib.ListN.{set}
use Rattle.std.specs.Prelude.{Result, Ok, Err}
use Rattle.bits.specs.Codec.{flag, absent, Nil, nil}
use Rattle.bits.specs.declared.answer.Refusal.{Refusal}
use Rattle.reader.specs.declared.BitReader.{BitReader}
use Rattle.reader.specs.Reading.{Said}
use Rattle.reader.proofs.Reading.{by_absent}
use Rattle.fill.specs.Fills.{signed_bit, at, ◌▸◌, Fills}
use Rattle.fill.proofs.Filling.{begin, struct, put_on, put_halt, final, yes, no, settled}
use Rattle.parts_reader.specs.Reading.{number_at}
use Rattle.segmentation.specs.declared.record.SegmentationContext.{SegmentationContext}
use Rattle.segmentation.specs.Segmentation.{none, enabled_params, segmentation_table, segmentation_params}
use Rattle.segmentation_reader.specs.Layout.{enabled_place, segmentation_place}

module _ (context : SegmentationContext) {p q : BitReader} {m : List ℤ} where
  pub no_flag : {y : Refusal} → Said flag.dec p q (Err y) → Fills segmentation_place (segmentation_params context).dec p q (Err y) m m
  unfolding segmentation_params segmentation_table segmentation_place
  no_flag s = begin _ (struct _ _ _ _ (λ a. refl) (put_halt _ _ s refl))

  module _ {b : Bool} (s : Said flag.dec p q (Ok b)) where
    pub off_read : b ≡ false → {z : List ℤ} → z ≡ (number_at 1 signed_bit ▸ enabled_place).put (false, none) m → Fills segmentation_place (segmentation_params context).dec p q (Ok nil) m z
    unfolding segmentation_params segmentation_table segmentation_place ◌▸◌ at
    off_read h e =
        begin _ (struct _ _ _ _ (λ a. refl) (put_on (pos 0) 1 signed_bit enabled_place flag _ (rw h at s) (no _ _ _ refl (settled (absent none) none (by_absent none) e))))

    pub on_read : b ≡ true → {n : BitReader} {g : Result Nil Refusal} {z : List ℤ} → Fills enabled_place (enabled_params context.primary_ref_frame).dec q n g (set m 1 (pos 1)) z
        → Fills segmentation_place (segmentation_params context).dec p n g m z
    unfolding segmentation_params segmentation_table segmentation_place
    on_read h c =
        begin _ (struct _ _ _ _ (λ a. refl) (put_on (pos 0) 1 signed_bit enabled_place flag _ (rw h at s) (yes _ _ _ refl (final _ c refl))))
